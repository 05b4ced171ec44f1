-- Magnitudes of sums and products, and sums of weighted values taken one by one.
use Rattle.std.specs.Prelude.{◌≡◌, ◌≤◌, ◌<◌, ◌+◌, ◌*◌, ◌^◌, ℕ, zero, suc, ℤ, pos, negsuc, neg_ℤ, ◌+ℤ◌, ◌*ℤ◌, ◌≤ℤ◌, List, [], ◌∷◌, length, slice_index_or, FitsSigned, refl}
use Rattle.std.proofs.Common.{◌∙◌, ap, ap₂, arith, drop, add-one, to_z, of_z, w64, lit<}
use Rattle.std.proofs.Math.Nat.{mul-le-mul}
use Rattle.std.specs.Int.{w128}
use Rattle.std.specs.Int.RustNames.{unsigned_abs}
use Rattle.std.proofs.lemmas.Int.{ints, unsigned_abs-mul, fits_signed_from_abs, to_z-of_z}
use Rattle.std.proofs.lemmas.List.{drop_all}
use Rattle.iteration_order.specs.Affine.{weighted_sum, IsAtMost}

-- ---- magnitudes
pub at_most : (m : ℕ) (z : ℤ) → neg_ℤ (pos m) ≤ℤ z → z ≤ℤ pos m → IsAtMost m z
at_most m (pos n) above below = omega (arith, ints)
at_most m (negsuc n) above below = omega (arith, ints)

pub above : (z : ℤ) → neg_ℤ (pos (unsigned_abs z)) ≤ℤ z
above (pos n) = omega (arith, ints)
above (negsuc n) = omega (arith, ints)

pub below : (z : ℤ) → z ≤ℤ pos (unsigned_abs z)
below (pos n) = omega (arith, ints)
below (negsuc n) = omega (arith, ints)

pub sum_at_most : (m n : ℕ) (a b : ℤ) → IsAtMost m a → IsAtMost n b → IsAtMost (m + n) (a +ℤ b)
sum_at_most m n a b small few =
    let a_above = above a in
    let a_below = below a in
    let b_above = above b in
    let b_below = below b in
    at_most (m + n) (a +ℤ b) (omega (arith, ints)) (omega (arith, ints))

pub product_at_most : (m n : ℕ) (a b : ℤ) → IsAtMost m a → IsAtMost n b → IsAtMost (m * n) (a *ℤ b)
product_at_most m n a b small few = omega (arith, unsigned_abs-mul a b, mul-le-mul small few)

pub fits : (m : ℕ) (z : ℤ) → IsAtMost m z → m < 2 ^ 127 → FitsSigned w128 z
fits m z small lt = fits_signed_from_abs w128 z (omega arith)

pub kept : (m : ℕ) (z : ℤ) → IsAtMost m z → m < 2 ^ 127 → to_z w128 (of_z w128 z) ≡ z
kept m z small lt = to_z-of_z w128 z (fits m z small lt)

-- a number of 64 bits
pub word_at_most : (z : ℤ) → FitsSigned w64 z → IsAtMost (2 ^ 63) z
word_at_most (pos n) f = let lt = f.sfits in omega arith
word_at_most (negsuc n) f = let lt = f.sfits in omega arith

-- ---- what the code's product is: of a coefficient a and of r, which is the value b
pub record CodeProduct (m : ℕ) (a r b : ℤ) : Type 0 where
  pub fits : FitsSigned w128 (to_z w64 (of_z w64 a) *ℤ to_z w128 (of_z w128 r))
  pub is : to_z w64 (of_z w64 a) *ℤ to_z w128 (of_z w128 r) ≡ a *ℤ b
  pub small : IsAtMost m (a *ℤ b)

pub code_product : (m n : ℕ) (a r b : ℤ) → IsAtMost m a → m < 2 ^ 63 → IsAtMost n b → n < 2 ^ 127 → m * n < 2 ^ 127 → r ≡ b → CodeProduct (m * n) a r b
code_product m n a r b a_small m_lt b_small n_lt lt r_is =
    let a_kept : to_z w64 (of_z w64 a) ≡ a = to_z-of_z w64 a (fits_signed_from_abs w64 a (omega arith)) in
    let r_kept : to_z w128 (of_z w128 r) ≡ b = ap (λ z. to_z w128 (of_z w128 z)) r_is ∙ kept n b b_small n_lt in
    let is : to_z w64 (of_z w64 a) *ℤ to_z w128 (of_z w128 r) ≡ a *ℤ b = ap₂ (λ x y. x *ℤ y) a_kept r_kept in
    let small : IsAtMost (m * n) (a *ℤ b) = product_at_most m n a b a_small b_small in
    record { fits = rw is (fits (m * n) (a *ℤ b) small lt); is = is; small = small }

-- ---- what the code's sum is
pub code_sum : (m n : ℕ) (a b : ℤ) → IsAtMost m a → IsAtMost n b → m + n < 2 ^ 127 → to_z w128 (of_z w128 (to_z w128 (of_z w128 a) +ℤ to_z w128 (of_z w128 b))) ≡ a +ℤ b
code_sum m n a b a_small b_small lt =
    ap₂ (λ x y. to_z w128 (of_z w128 (x +ℤ y))) (kept m a a_small (omega arith)) (kept n b b_small (omega arith)) ∙
    kept (m + n) (a +ℤ b) (sum_at_most m n a b a_small b_small) lt

-- and that of three numbers
pub record CodeSum (m : ℕ) (a b c : ℤ) : Type 0 where
  pub is : to_z w128 (of_z w128 (to_z w128 (of_z w128 (to_z w128 (of_z w128 a) +ℤ to_z w128 (of_z w128 b))) +ℤ to_z w128 (of_z w128 c))) ≡ (a +ℤ b) +ℤ c
  pub small : IsAtMost m ((a +ℤ b) +ℤ c)

pub code_sum_of_three : (k m n : ℕ) (a b c : ℤ) → IsAtMost k a → IsAtMost m b → IsAtMost n c → (k + m) + n < 2 ^ 127 → CodeSum ((k + m) + n) a b c
code_sum_of_three k m n a b c a_small b_small c_small lt =
    let small : IsAtMost ((k + m) + n) ((a +ℤ b) +ℤ c) = sum_at_most (k + m) n (a +ℤ b) c (sum_at_most k m a b a_small b_small) c_small in
    record {
      is = ap₂ (λ x y. to_z w128 (of_z w128 (x +ℤ y))) (code_sum k m a b a_small b_small (omega arith)) (kept n c c_small (omega arith)) ∙
          kept ((k + m) + n) ((a +ℤ b) +ℤ c) small lt;
      small = small;
    }

-- a sum in a loop: its bits mean sum, and the code's next product is p, which is q
pub record NextSum (k : ℕ) (sum q c p : ℤ) : Type 0 where
  pub fits : FitsSigned w128 (c +ℤ to_z w128 (of_z w128 p))
  pub is : to_z w128 (of_z w128 (c +ℤ to_z w128 (of_z w128 p))) ≡ sum +ℤ q
  pub small : IsAtMost ((k + 1) * 2 ^ 94) (sum +ℤ q)

pub next_sum : (k : ℕ) (sum q c p : ℤ) → k < 8 → IsAtMost (k * 2 ^ 94) sum → IsAtMost (2 ^ 94) q → c ≡ sum → p ≡ q → NextSum k sum q c p
next_sum k sum q c p lt sum_small q_small c_is p_is =
    let inner : c +ℤ to_z w128 (of_z w128 p) ≡ sum +ℤ q = ap₂ (λ x y. x +ℤ y) c_is (ap (λ z. to_z w128 (of_z w128 z)) p_is ∙ kept (2 ^ 94) q q_small (lit< tt)) in
    let both : IsAtMost (k * 2 ^ 94 + 2 ^ 94) (sum +ℤ q) = sum_at_most (k * 2 ^ 94) (2 ^ 94) sum q sum_small q_small in
    record {
      fits = rw inner (fits (k * 2 ^ 94 + 2 ^ 94) (sum +ℤ q) both (omega arith));
      is = rw inner (kept (k * 2 ^ 94 + 2 ^ 94) (sum +ℤ q) both (omega arith));
      small = omega arith;
    }

-- ---- weighted sums
pub weighted-none : (cs vs : List ℤ) → length cs ≡ length vs → length vs ≡ 0 → weighted_sum cs vs ≡ pos 0
unfolding weighted_sum
weighted-none [] vs same none = refl
weighted-none (c ∷ cs) [] same none = refl
weighted-none (c ∷ cs) (v ∷ vs) same none = absurd (omega arith)

pub weighted-one : (cs vs : List ℤ) → length cs ≡ length vs → length vs ≡ 1 → weighted_sum cs vs ≡ slice_index_or cs 0 (pos 0) *ℤ slice_index_or vs 0 (pos 0)
unfolding weighted_sum
weighted-one [] vs same one = absurd (omega arith)
weighted-one (c ∷ cs) [] same one = absurd (omega arith)
weighted-one (c ∷ cs) (v ∷ vs) same one =
    let rest = weighted-none cs vs (omega arith) (omega arith) in
    omega (arith, ints)

weighted_after : (cs vs : List ℤ) (k : ℕ) → length cs ≡ length vs → k < length cs →
    weighted_sum (drop k cs) (drop k vs) ≡ (slice_index_or cs k (pos 0) *ℤ slice_index_or vs k (pos 0)) +ℤ weighted_sum (drop (suc k) cs) (drop (suc k) vs)
unfolding weighted_sum
weighted_after [] vs k same lt = absurd (omega arith)
weighted_after (c ∷ cs) [] k same lt = absurd (omega arith)
weighted_after (c ∷ cs) (v ∷ vs) zero same lt = refl
weighted_after (c ∷ cs) (v ∷ vs) (suc k) same lt = weighted_after cs vs k (omega arith) (omega arith)

pub weighted-next : (cs vs : List ℤ) (k : ℕ) → length cs ≡ length vs → k < length cs →
    weighted_sum (drop k cs) (drop k vs) ≡ (slice_index_or cs k (pos 0) *ℤ slice_index_or vs k (pos 0)) +ℤ weighted_sum (drop (k + 1) cs) (drop (k + 1) vs)
weighted-next cs vs k same lt = rw add-one (weighted_after cs vs k same lt)

weighted-no_coefficients : (vs : List ℤ) → weighted_sum [] vs ≡ pos 0
unfolding weighted_sum
weighted-no_coefficients vs = refl

pub weighted-done : (cs vs : List ℤ) (k : ℕ) → length cs ≤ k → weighted_sum (drop k cs) (drop k vs) ≡ pos 0
weighted-done cs vs k le = ap (λ l. weighted_sum l (drop k vs)) (drop_all k cs le) ∙ weighted-no_coefficients (drop k vs)
