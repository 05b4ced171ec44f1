-- Sizes of products, sums and quotients of small numbers: all of them fit 128 bits.
use Rattle.std.proofs.Common.{ℕ, ◌*◌, ◌^◌, ◌<◌, ◌≤◌, ◌/◌, ℤ, pos, negsuc, ◌-ℤ◌, ◌*ℤ◌, ◌<ℤ◌, arith}
use Rattle.std.specs.Prelude.{unsigned_abs, int_div, FitsSigned}
use mir.Syntax.{w128}
use Rattle.std.proofs.lemmas.Int.{ints, unsigned_abs-mul, fits_signed_from_abs}
use Rattle.std.proofs.lemmas.Nat.{mul-le, le-div}
use Rattle.std.proofs.Math.Nat.{mul-pos}

-- a product of two small numbers
pub small_product : (a b : ℤ) → unsigned_abs a ≤ 2 ^ 62 → unsigned_abs b ≤ 2 ^ 62 → unsigned_abs (a *ℤ b) ≤ 2 ^ 124
small_product a b p q =
    let e = unsigned_abs-mul a b in
    let le = mul-le (unsigned_abs a) (unsigned_abs b) (2 ^ 62) (2 ^ 62) p q in
    omega arith

pub product_fits : (a b : ℤ) → unsigned_abs a ≤ 2 ^ 62 → unsigned_abs b ≤ 2 ^ 62 → FitsSigned w128 (a *ℤ b)
product_fits a b p q = let le = small_product a b p q in fits_signed_from_abs w128 (a *ℤ b) (omega arith)

pub difference_small : (a b : ℤ) → unsigned_abs a ≤ 2 ^ 124 → unsigned_abs b ≤ 2 ^ 124 → unsigned_abs (a -ℤ b) ≤ 2 ^ 126
difference_small a b p q = omega (arith, ints)

-- a product of positive numbers
pub positive_product : (a b : ℤ) → pos 0 <ℤ a → pos 0 <ℤ b → pos 0 <ℤ (a *ℤ b)
positive_product (pos m) (pos n) p q = let lt : 0 < m * n = mul-pos (omega (arith, ints)) (omega (arith, ints)) in omega (arith, ints)
positive_product (negsuc m) b p q = absurd (omega (arith, ints))
positive_product (pos m) (negsuc n) p q = absurd (omega (arith, ints))

-- what is divided by something no greater stays positive
pub positive_quotient : (z : ℤ) (g : ℕ) → pos 0 <ℤ z → 0 < g → g ≤ unsigned_abs z → pos 0 <ℤ int_div z (pos g)
positive_quotient (pos n) g p lt le = let one : 1 ≤ n / g = le-div 1 n g lt (omega arith) in omega (arith, ints)
positive_quotient (negsuc n) g p lt le = absurd (omega (arith, ints))
