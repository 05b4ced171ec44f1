-- Walks and cycles of rows, their sums, and the cycles that refute the rows.
-- The sum of a cycle's numbers bounds a variable less itself, so where it is negative nothing meets the rows.
use Rattle.std.specs.Prelude.{◌≡◌, ℕ, ℤ, pos, ◌+ℤ◌, ◌<ℤ◌, ◌<◌, List, [], ◌∷◌, map, length, slice_index_or, All}
use Rattle.diff_prover.specs.declared.row.DiffRow.{DiffRow}

-- a walk from a to b: a is the first row's left, each row's right is the next row's left, and the last
-- row's right is b
abbrev pub IsWalk : ℕ → List DiffRow → ℕ → Type 0
IsWalk a [] b = a ≡ b
IsWalk a (row ∷ rows) b = (row.left ≡ a) × IsWalk row.right rows b

-- a cycle: a walk of one row or more, back to where it begins
abbrev pub IsCycle : List DiffRow → Type 0
IsCycle [] = ⊥
IsCycle (row ∷ rows) = IsWalk row.right rows row.left

-- the sum of the rows' numbers
abbrev pub sum_of : List DiffRow → ℤ
sum_of [] = pos 0
sum_of (row ∷ rows) = row.by +ℤ sum_of rows

-- the row at a place
abbrev pub row_at : List DiffRow → ℕ → DiffRow
row_at rows place = slice_index_or rows place (record { left = 0; right = 0; by = pos 0 })

-- the rows at the places
abbrev pub rows_at : List DiffRow → List ℕ → List DiffRow
rows_at rows places = map (row_at rows) places

-- places of rows that make a cycle with a negative sum
pub record IsNegativeCycle (rows : List DiffRow) (places : List ℕ) : Type 0 where
  pub in_range : All (λ place. place < length rows) places
  pub closes : IsCycle (rows_at rows places)
  pub negative : sum_of (rows_at rows places) <ℤ pos 0
