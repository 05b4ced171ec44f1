-- Magnitudes of sums and of products, of numbers and of forms.
use Rattle.std.specs.Prelude.{◌≡◌, ◌≤◌, ◌<◌, ◌+◌, ◌*◌, ◌^◌, ℕ, ℤ, pos, negsuc, neg_ℤ, ◌+ℤ◌, ◌-ℤ◌, ◌*ℤ◌, ◌≤ℤ◌, List, [], ◌∷◌, length, slice_index_or, replicate, zero, suc, FitsSigned, All}
use Rattle.std.proofs.Common.{◌∙◌, ap, ap₂, arith, lit<, to_z, of_z, w64}
use Rattle.std.specs.Int.RustNames.{unsigned_abs}
use Rattle.std.proofs.Math.Nat.{mul-le-mul}
use Rattle.std.proofs.lemmas.Int.{ints, unsigned_abs-mul, fits_signed_from_abs, to_z-of_z}
use Rattle.affine_forms.specs.declared.form.Form.{Form}
use Rattle.affine_forms.specs.Form.{IsAtMost, IsProductAtMost, IsWithin, AreProductsWithin, plus_multiples, plus_multiple, scaled, constant_form, without_counters}

pub at_most : (m : ℕ) (z : ℤ) → neg_ℤ (pos m) ≤ℤ z → z ≤ℤ pos m → IsAtMost m z
at_most m (pos n) above below = omega (arith, ints)
at_most m (negsuc n) above below = omega (arith, ints)

above : (z : ℤ) → neg_ℤ (pos (unsigned_abs z)) ≤ℤ z
above (pos n) = omega (arith, ints)
above (negsuc n) = omega (arith, ints)

below : (z : ℤ) → z ≤ℤ pos (unsigned_abs z)
below (pos n) = omega (arith, ints)
below (negsuc n) = omega (arith, ints)

pub sum_at_most : (m n : ℕ) (a b : ℤ) → IsAtMost m a → IsAtMost n b → IsAtMost (m + n) (a +ℤ b)
sum_at_most m n a b small few =
    let a_above = above a in
    let a_below = below a in
    let b_above = above b in
    let b_below = below b in
    at_most (m + n) (a +ℤ b) (omega (arith, ints)) (omega (arith, ints))

-- a number of at most 63 bits is kept
pub kept : (m : ℕ) (z : ℤ) → IsAtMost m z → m < 2 ^ 63 → to_z w64 (of_z w64 z) ≡ z
kept m z small lt = to_z-of_z w64 z (fits_signed_from_abs w64 z (omega arith))

pub product_at_most : (m n : ℕ) (a b : ℤ) → IsAtMost m a → IsAtMost n b → IsAtMost (m * n) (a *ℤ b)
product_at_most m n a b small few = omega (arith, unsigned_abs-mul a b, mul-le-mul small few)

le_trans : {a b c : ℕ} → a ≤ b → b ≤ c → a ≤ c
le_trans p q = omega (arith, p, q)

-- ---- of forms
pub products_within : (m n p : ℕ) (t : ℤ) (f : Form) → IsAtMost m t → IsWithin n f → m * n ≤ p → AreProductsWithin p t f
products_within m n p t f small is le = record {
  counters = λ k d lt. le_trans (product_at_most m n t (slice_index_or f.counters k d) small (is.counters k d lt)) le;
  symbols = λ k d lt. le_trans (product_at_most m n t (slice_index_or f.symbols k d) small (is.symbols k d lt)) le;
  constant = le_trans (product_at_most m n t f.constant small is.constant) le;
}

wider_list : (m n : ℕ) (ns : List ℤ) → m ≤ n → All (IsAtMost m) ns → All (IsAtMost n) ns
wider_list m n ns le are k d lt = le_trans (are k d lt) le

pub wider : (m n : ℕ) (f : Form) → m ≤ n → IsWithin m f → IsWithin n f
wider m n f le is = record {
  counters = wider_list m n f.counters le is.counters;
  symbols = wider_list m n f.symbols le is.symbols;
  constant = le_trans is.constant le;
}

sums_within : (m p : ℕ) (ns os : List ℤ) (t : ℤ) → All (IsAtMost m) ns → All (IsProductAtMost p t) os →
    (k : ℕ) (d : ℤ) → k < length (plus_multiples ns t os) → IsAtMost (m + p) (slice_index_or (plus_multiples ns t os) k d)
unfolding plus_multiples
sums_within m p [] os t are products k d lt = absurd (omega arith)
sums_within m p (n ∷ ns) [] t are products k d lt = le_trans (are k d lt) (omega arith)
sums_within m p (n ∷ ns) (o ∷ os) t are products zero d lt = sum_at_most m p n (t *ℤ o) (are zero d (omega arith)) (products zero d (omega arith))
sums_within m p (n ∷ ns) (o ∷ os) t are products (suc k) d lt =
    sums_within m p ns os t (λ k d lt. are (suc k) d (omega arith)) (λ k d lt. products (suc k) d (omega arith)) k d (omega arith)

pub sum_within : (m p : ℕ) (f g : Form) (t : ℤ) → IsWithin m f → AreProductsWithin p t g → IsWithin (m + p) (plus_multiple f t g)
sum_within m p f g t is products = record {
  counters = sums_within m p f.counters g.counters t is.counters products.counters;
  symbols = sums_within m p f.symbols g.symbols t is.symbols products.symbols;
  constant = sum_at_most m p f.constant (t *ℤ g.constant) is.constant products.constant;
}

zeros_within : (m n k : ℕ) (d : ℤ) → k < length (replicate n (pos 0)) → IsAtMost m (slice_index_or (replicate n (pos 0)) k d)
zeros_within m zero k d lt = absurd (omega arith)
zeros_within m (suc n) zero d lt = omega arith
zeros_within m (suc n) (suc k) d lt = zeros_within m n k d (omega arith)

pub without_within : (m : ℕ) (f : Form) → IsWithin m f → IsWithin m (without_counters f)
without_within m f is = record { counters = zeros_within m 4; symbols = is.symbols; constant = is.constant }

-- ---- what 64 bits keep of products, differences and the other sign
pub difference_at_most : (m n : ℕ) (a b : ℤ) → IsAtMost m a → IsAtMost n b → IsAtMost (m + n) (a -ℤ b)
difference_at_most m n a b small few =
    let a_above = above a in
    let a_below = below a in
    let b_above = above b in
    let b_below = below b in
    at_most (m + n) (a -ℤ b) (omega (arith, ints)) (omega (arith, ints))

pub kept_product : (a b : ℤ) → IsAtMost 1 a → IsAtMost 1 b → to_z w64 (of_z w64 (to_z w64 (of_z w64 a) *ℤ to_z w64 (of_z w64 b))) ≡ a *ℤ b
kept_product a b a_small b_small =
    ap₂ (λ x y. to_z w64 (of_z w64 (x *ℤ y))) (kept 1 a a_small (lit< tt)) (kept 1 b b_small (lit< tt))
    ∙ kept 1 (a *ℤ b) (product_at_most 1 1 a b a_small b_small) (lit< tt)

pub kept_negative : (b : ℤ) → IsAtMost 1 b → to_z w64 (of_z w64 (pos 0 -ℤ to_z w64 (of_z w64 b))) ≡ neg_ℤ b
kept_negative b small =
    ap (λ x. to_z w64 (of_z w64 (pos 0 -ℤ x))) (kept 1 b small (lit< tt))
    ∙ kept 1 (pos 0 -ℤ b) (difference_at_most 0 1 (pos 0) b (omega arith) small) (lit< tt)
    ∙ omega (arith, ints)

-- the difference of two products of units
pub record KeptDifference (p q : ℤ) (a b c d : ℤ) : Type 0 where
  pub fits : FitsSigned w64 (p -ℤ q)
  pub is : to_z w64 (of_z w64 (p -ℤ q)) ≡ (a *ℤ b) -ℤ (c *ℤ d)

pub kept_difference : (a b c d : ℤ) → IsAtMost 1 a → IsAtMost 1 b → IsAtMost 1 c → IsAtMost 1 d →
    KeptDifference (to_z w64 (of_z w64 (to_z w64 (of_z w64 a) *ℤ to_z w64 (of_z w64 b)))) (to_z w64 (of_z w64 (to_z w64 (of_z w64 c) *ℤ to_z w64 (of_z w64 d)))) a b c d
kept_difference a b c d a_small b_small c_small d_small =
    let is : _ ≡ (a *ℤ b) -ℤ (c *ℤ d) = ap₂ (λ x y. x -ℤ y) (kept_product a b a_small b_small) (kept_product c d c_small d_small) in
    let small : IsAtMost 2 ((a *ℤ b) -ℤ (c *ℤ d)) =
    difference_at_most 1 1 (a *ℤ b) (c *ℤ d) (product_at_most 1 1 a b a_small b_small) (product_at_most 1 1 c d c_small d_small) in
    record {
      fits = rw is (fits_signed_from_abs w64 ((a *ℤ b) -ℤ (c *ℤ d)) (omega arith));
      is = ap (λ z. to_z w64 (of_z w64 z)) is ∙ kept 2 ((a *ℤ b) -ℤ (c *ℤ d)) small (lit< tt);
    }

pub negative_at_most : (b : ℤ) → IsAtMost 1 b → IsAtMost 1 (neg_ℤ b)
negative_at_most (pos n) small = let p = below (pos n) in let q = above (neg_ℤ (pos n)) in at_most 1 (neg_ℤ (pos n)) (omega (arith, ints)) (omega (arith, ints))
negative_at_most (negsuc n) small = let p = below (negsuc n) in at_most 1 (neg_ℤ (negsuc n)) (omega (arith, ints)) (omega (arith, ints))

constant_within : (m : ℕ) → IsWithin m (constant_form (pos 0))
constant_within m = record { counters = zeros_within m 4; symbols = zeros_within m 8; constant = omega arith }

pub scaled_within : (m : ℕ) (t : ℤ) (f : Form) → IsAtMost 1 t → IsWithin m f → IsWithin m (scaled t f)
scaled_within m t f small is =
    wider (0 + m) m (scaled t f) (omega arith)
    (sum_within 0 m (constant_form (pos 0)) f t (constant_within 0) (products_within 1 m m t f small is (omega arith)))
