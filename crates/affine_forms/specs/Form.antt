-- Affine forms over the counters of loops and over symbols: their values, and sums and multiples of them.
-- A form is a sum of coefficients times counters, of coefficients times symbols, and of a constant.
use Rattle.std.specs.Prelude.{◌≡◌, ℕ, ◌≤◌, ℤ, pos, negsuc, ◌+ℤ◌, ◌*ℤ◌, List, [], ◌∷◌, length, All, replicate, slice_set}
use Rattle.std.specs.Int.RustNames.{unsigned_abs}
use Rattle.affine_forms.specs.declared.form.Form.{Form}

-- the sum of the coefficients, each times the value at its place
unfoldable pub weighted_sum : List ℤ → List ℤ → ℤ
weighted_sum [] vs = pos 0
weighted_sum (c ∷ cs) [] = pos 0
weighted_sum (c ∷ cs) (v ∷ vs) = (c *ℤ v) +ℤ weighted_sum cs vs

-- the value of a form at the values of the counters, outermost first, and of the symbols
abbrev pub form_value : Form → List ℤ → List ℤ → ℤ
form_value f counters symbols =
    (weighted_sum f.counters counters +ℤ weighted_sum f.symbols symbols) +ℤ f.constant

-- a form has four counters and eight symbols; those that a nest or a rule lacks have the coefficient 0
pub record IsForm (f : Form) : Type 0 where
  pub counters : length f.counters ≡ 4
  pub symbols : length f.symbols ≡ 8

-- ---- magnitudes
-- the magnitude of a number is at most m
abbrev pub IsAtMost : ℕ → ℤ → Type 0
IsAtMost m z = unsigned_abs z ≤ m

-- and that of a multiple of it
abbrev pub IsProductAtMost : ℕ → ℤ → ℤ → Type 0
IsProductAtMost m times z = unsigned_abs (times *ℤ z) ≤ m

-- each number of a form is at most m in magnitude
pub record IsWithin (m : ℕ) (f : Form) : Type 0 where
  pub counters : All (IsAtMost m) f.counters
  pub symbols : All (IsAtMost m) f.symbols
  pub constant : IsAtMost m f.constant

-- and each number of a multiple of the form
pub record AreProductsWithin (m : ℕ) (times : ℤ) (f : Form) : Type 0 where
  pub counters : All (IsProductAtMost m times) f.counters
  pub symbols : All (IsProductAtMost m times) f.symbols
  pub constant : IsProductAtMost m times f.constant

-- all magnitudes are below 2^31, as those of a form in a rule are
abbrev pub IsSmall : Form → Type 0
IsSmall f = IsWithin 2147483647 f

-- the coefficients of the counters are -1, 0 or 1
abbrev pub HasUnitCounters : Form → Type 0
HasUnitCounters f = All (IsAtMost 1) f.counters

-- no counter and no symbol counts
pub record IsConstant (f : Form) : Type 0 where
  pub counters : All (λ c. c ≡ pos 0) f.counters
  pub symbols : All (λ c. c ≡ pos 0) f.symbols

-- ---- the forms of one term
abbrev pub constant_form : ℤ → Form
constant_form z = record {
  counters = replicate 4 (pos 0);
  symbols = replicate 8 (pos 0);
  constant = z;
}

abbrev pub counter_form : ℕ → Form
counter_form k = record {
  counters = slice_set (replicate 4 (pos 0)) k (pos 1);
  symbols = replicate 8 (pos 0);
  constant = pos 0;
}

abbrev pub symbol_form : ℕ → Form
symbol_form k = record {
  counters = replicate 4 (pos 0);
  symbols = slice_set (replicate 8 (pos 0)) k (pos 1);
  constant = pos 0;
}

-- ---- sums and multiples
-- to each number a multiple of the number at its place in another list
unfoldable pub plus_multiples : List ℤ → ℤ → List ℤ → List ℤ
plus_multiples [] times bs = []
plus_multiples (a ∷ rest) times [] = a ∷ rest
plus_multiples (a ∷ rest) times (b ∷ bs) = (a +ℤ (times *ℤ b)) ∷ plus_multiples rest times bs

-- a form and a multiple of another
abbrev pub plus_multiple : Form → ℤ → Form → Form
plus_multiple f times g = record {
  counters = plus_multiples f.counters times g.counters;
  symbols = plus_multiples f.symbols times g.symbols;
  constant = f.constant +ℤ (times *ℤ g.constant);
}

abbrev pub plus : Form → Form → Form
plus f g = plus_multiple f (pos 1) g

abbrev pub minus : Form → Form → Form
minus f g = plus_multiple f (negsuc 0) g

abbrev pub scaled : ℤ → Form → Form
scaled times f = plus_multiple (constant_form (pos 0)) times f

-- what a form has beside its counters
abbrev pub without_counters : Form → Form
without_counters f = record f { counters = replicate 4 (pos 0) }

-- a form, and for each coefficient so many times the form at its place
unfoldable pub with_terms : Form → List ℤ → List Form → Form
with_terms f [] gs = f
with_terms f (c ∷ cs) [] = f
with_terms f (c ∷ cs) (g ∷ gs) = with_terms (plus_multiple f c g) cs gs

-- each counter of a form is replaced by a form
abbrev pub substitute : Form → List Form → Form
substitute f by = with_terms (without_counters f) f.counters by
