-- Numbers that were tested to be small are small.
use Rattle.std.proofs.Common.{◌≡◌, ◌≤◌, ◌^◌, ℤ, true, List, All, get_or}
use Rattle.std.specs.Prelude.{unsigned_abs}
use Rattle.std.specs.List.{list_all}
use Rattle.std.proofs.lemmas.Bool.{leb-true}
use Rattle.std.proofs.lemmas.List.Sums.{AllPass-from_list_all}
use Rattle.linear_rows.specs.Fractions.{is_small}

pub small : (z : ℤ) → is_small z ≡ true → unsigned_abs z ≤ 2 ^ 62
small z h = leb-true (unsigned_abs z) (2 ^ 62) h

pub all_small : (zs : List ℤ) → list_all is_small zs ≡ true → All (λ z. unsigned_abs z ≤ 2 ^ 62) zs
all_small zs h = λ k d below. small (get_or zs k d) (AllPass-from_list_all is_small zs h k d below)
