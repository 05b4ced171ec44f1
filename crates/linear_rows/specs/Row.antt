-- Linear rows, and the points of fractions that meet them.
-- A row says that the sum of its coefficients times the variables is at most its bound.
use Rattle.std.specs.Prelude.{◌≡◌, ℕ, ℤ, pos, ◌+ℤ◌, ◌*ℤ◌, ◌≤ℤ◌, ◌<◌, ◌≤◌, ◌^◌, List, ◌∷◌, length, All, unsigned_abs}
use Rattle.linear_rows.specs.declared.row.Row.{Row}

-- a point of fractions over one common denominator: variable j is the j-th of `over` by `under`.
-- Fractions with denominators of their own are such a point, over the product of these.
pub record Point : Type 0 where
  pub over : List ℤ
  pub under : ℕ
  pub positive : 0 < under

-- the sum of the products of two lists' numbers
abbrev pub products : List ℤ → List ℤ → ℤ
products (a ∷ rest) (x ∷ xs) = (a *ℤ x) +ℤ products rest xs
products _ _ = pos 0

-- the sum of coefficients times variables is at most the bound, both sides times the denominator
abbrev pub IsMet : Point → Row → Type 0
IsMet point row = products row.coefficients point.over ≤ℤ (row.bound *ℤ pos point.under)

-- no point of fractions meets the rows
abbrev pub HaveNoSolution : List Row → Type 0
HaveNoSolution rows = (point : Point) → All (IsMet point) rows → ⊥

-- n coefficients, and numbers of magnitude at most 2^62
pub record IsRowOver (n : ℕ) (row : Row) : Type 0 where
  pub count : length row.coefficients ≡ n
  pub coefficients : All (λ a. unsigned_abs a ≤ 2 ^ 62) row.coefficients
  pub bound : unsigned_abs row.bound ≤ 2 ^ 62
