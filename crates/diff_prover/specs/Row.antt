-- Rows of differences, and the whole numbers that meet them.
-- A row says that its left variable is at most its right variable plus a number.
use Rattle.std.specs.Prelude.{ℕ, ℤ, pos, neg_ℤ, ◌+ℤ◌, ◌≤ℤ◌, ◌<◌, ◌^◌, List, slice_index_or, All}
use Rattle.diff_prover.specs.declared.row.DiffRow.{DiffRow}

-- the assignment that a list of numbers gives
abbrev pub assignment : List ℤ → ℕ → ℤ
assignment numbers variable = slice_index_or numbers variable (pos 0)

-- x_left <= x_right + by
abbrev pub IsMet : (ℕ → ℤ) → DiffRow → Type 0
IsMet x row = x row.left ≤ℤ (x row.right +ℤ row.by)

-- the assignment meets each row
abbrev pub Meets : (ℕ → ℤ) → List DiffRow → Type 0
Meets x rows = All (IsMet x) rows

-- no assignment of whole numbers meets the rows
abbrev pub HaveNoSolution : List DiffRow → Type 0
HaveNoSolution rows = (x : ℕ → ℤ) → Meets x rows → ⊥

-- a number of magnitude at most m
pub record IsWithin (m : ℕ) (z : ℤ) : Type 0 where
  pub above : neg_ℤ (pos m) ≤ℤ z
  pub below : z ≤ℤ pos m

-- a row over the first n variables, with a number of magnitude at most 2^65
pub record IsRowOver (n : ℕ) (row : DiffRow) : Type 0 where
  pub left_below : row.left < n
  pub right_below : row.right < n
  pub magnitude : IsWithin (2 ^ 65) row.by
