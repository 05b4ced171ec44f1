-- Affine forms over counters and symbols: their values, and which forms the bounds of a loop may be.
-- A form is a sum of coefficients times counters, of coefficients times symbols, and of a constant.
use Rattle.std.specs.Prelude.{◌≡◌, ℕ, ◌<◌, ◌≤◌, ◌^◌, ℤ, pos, ◌+ℤ◌, ◌*ℤ◌, List, [], ◌∷◌, length, All}
use Rattle.std.specs.Int.RustNames.{unsigned_abs}
use Rattle.iteration_order.specs.declared.affine.Affine.{Affine}

-- the sum of the coefficients, each times the value at its place
unfoldable pub weighted_sum : List ℤ → List ℤ → ℤ
weighted_sum [] vs = pos 0
weighted_sum (c ∷ cs) [] = pos 0
weighted_sum (c ∷ cs) (v ∷ vs) = (c *ℤ v) +ℤ weighted_sum cs vs

-- the value of a form at the values of the counters, outermost first, and of the symbols
abbrev pub value_at : Affine → List ℤ → List ℤ → ℤ
value_at a counters symbols = (weighted_sum a.counters counters +ℤ weighted_sum a.symbols symbols) +ℤ a.constant

-- the magnitude of a number is at most m
abbrev pub IsAtMost : ℕ → ℤ → Type 0
IsAtMost m z = unsigned_abs z ≤ m

-- the magnitude of a number is below m
abbrev pub IsBelow : ℕ → ℤ → Type 0
IsBelow m z = unsigned_abs z < m

-- a form over so many counters and symbols, with small numbers
pub record IsForm (counters symbols : ℕ) (a : Affine) : Type 0 where
  pub counter_count : length a.counters ≡ counters
  pub symbol_count : length a.symbols ≡ symbols
  pub counters_small : All (IsAtMost 1024) a.counters
  pub symbols_small : All (IsBelow (2 ^ 31)) a.symbols
  pub constant_small : IsBelow (2 ^ 31) a.constant
