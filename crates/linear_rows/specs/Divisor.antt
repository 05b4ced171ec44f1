-- The greatest common divisor, by Euclid.
use Rattle.std.specs.Prelude.{ℕ, zero, suc, ◌%◌, ℤ, cond, nat_eq, unsigned_abs, List}
use Rattle.std.specs.List.{fold}

-- in at most so many divisions; b of them are enough, since each leaves less than it divides by
abbrev pub divisor_within : ℕ → ℕ → ℕ → ℕ
divisor_within zero a b = a
divisor_within (suc n) a b = cond (nat_eq b 0) a (divisor_within n b (a % b))

-- the greatest number that divides both; 0 where both are 0
unfoldable pub divisor : ℕ → ℕ → ℕ
divisor a b = divisor_within b a b

-- the greatest number that divides each, also of negative numbers
abbrev pub common_divisor : List ℤ → ℕ
common_divisor numbers = fold (λ g z. divisor g (unsigned_abs z)) 0 numbers
