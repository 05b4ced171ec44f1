-- The first number below another that gives something, as a search finds it.
use Rattle.std.specs.Prelude.{◌≡◌, ◌<◌, ℕ, zero, suc, Bool, true, false, Option, None, Some, is_some, refl}
use Rattle.std.specs.Option.{option_or}
use Rattle.std.proofs.Common.{arith, ◌∙◌, sym, ap, ltb-true, ltb-false}
use Rattle.std.specs.Prelude.{nat_lt}
use Rattle.loop_sides.specs.Below.{first_below}

or_some : {A : Type 0} (o p : Option A) → is_some o ≡ true → option_or o p ≡ o
or_some None p is = grind arith
or_some (Some a) p is = refl

or_none : {A : Type 0} (o p : Option A) → o ≡ None → option_or o p ≡ p
or_none None p is = refl
or_none (Some a) p is = grind arith

found_by : {A : Type 0} (b : Bool) (give : ℕ → Option A) (n k : ℕ) → nat_lt k n ≡ b → k < suc n → first_below give k ≡ None → is_some (give k) ≡ true →
    (k < n → first_below give n ≡ give k) → option_or (first_below give n) (give n) ≡ give k
found_by true give n k is lt none some before =
    let e = before (ltb-true k n is) in
    or_some (first_below give n) (give n) (ap is_some e ∙ some) ∙ e
found_by false give n k is lt none some before =
    let same : k ≡ n = omega (arith, ltb-false k n is, lt) in
    or_none (first_below give n) (give n) (ap (first_below give) (sym same) ∙ none) ∙ ap give (sym same)

-- the first number that gives something decides
pub found_first : {A : Type 0} (give : ℕ → Option A) (n k : ℕ) → k < n → first_below give k ≡ None → is_some (give k) ≡ true → first_below give n ≡ give k
found_first give zero k lt none some = absurd (omega arith)
found_first give (suc n) k lt none some = found_by (nat_lt k n) give n k refl lt none some (λ before. found_first give n k before none some)

pub is_some_told : {A : Type 0} (o p : Option A) → o ≡ p → is_some o ≡ true → is_some p ≡ true
is_some_told o p same some = ap is_some (sym same) ∙ some
