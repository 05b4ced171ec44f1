-- Row steps, and when they show that nothing meets the rows.
-- A step makes a row from two earlier ones: in each column `by` times the number of row `first` plus
-- `times` times that of row `second`, divided exactly by `cut`. So a column is made by itself.
use Rattle.std.specs.Prelude.{◌≡◌, ℕ, ℤ, pos, ◌+ℤ◌, ◌*ℤ◌, ◌<ℤ◌, ◌<◌, ◌^◌, ◌%◌, ◌&&◌, cond, nat_lt, nat_le, nat_eq, unsigned_abs, int_div, List, [], ◌∷◌, ◌++◌, map, slice_index_or, slice_get, Bool, IsTrue, Option, Some, None, int_lt}
use Rattle.std.specs.List.{last_or, list_any, list_all}
use Rattle.std.specs.Option.{option_and_then}
use Rattle.std.specs.Ordering.{int_eq}
use Rattle.linear_rows.specs.declared.row.Row.{Row}
use Rattle.linear_rows.specs.declared.step.RowStep.{RowStep}

-- the number of a row in a column: a coefficient, or the bound in the column after the last variable
abbrev pub number_in : ℕ → Row → ℤ
number_in column row = slice_index_or row.coefficients column row.bound

-- the numbers of the rows in a column
abbrev pub column_of : List Row → ℕ → List ℤ
column_of rows column = map (number_in column) rows

-- a product by a multiplier, where it is of magnitude at most 2^126
abbrev pub multiple : ℕ → ℤ → Option ℤ
multiple by z = cond (nat_le (unsigned_abs (pos by *ℤ z)) (2 ^ 126)) (Some (pos by *ℤ z)) None

-- the quotient of a sum, where the sum is of magnitude at most 2^126 and the division leaves nothing;
-- then the quotient is no greater
abbrev pub share : ℤ → ℕ → Option ℤ
share sum cut = cond (nat_le (unsigned_abs sum) (2 ^ 126) && nat_lt 0 cut && nat_eq (unsigned_abs sum % cut) 0) (Some (int_div sum (pos cut))) None

-- the share of the sum of two numbers
abbrev pub share_of_two : Option ℤ → Option ℤ → ℕ → Option ℤ
share_of_two (Some a) (Some b) cut = share (a +ℤ b) cut
share_of_two _ _ cut = None

-- what a step makes of the numbers of its rows first and second
abbrev pub combined : RowStep → ℤ → ℤ → Option ℤ
combined step a b = share_of_two (multiple step.by a) (multiple step.times b) step.cut

-- what a step makes of the column's numbers, where the rows that it cites are there
abbrev pub made_of : RowStep → Option ℤ → Option ℤ → Option ℤ
made_of step (Some a) (Some b) = combined step a b
made_of step _ _ = None

abbrev pub made : RowStep → List ℤ → Option ℤ
made step column = made_of step (slice_get column step.first) (slice_get column step.second)

-- the column with the numbers that the steps make, where each can be made
abbrev pub column_by : List ℤ → List RowStep → Option (List ℤ)
column_by column [] = Some column
column_by column (step ∷ steps) = option_and_then (λ z. column_by (column ++ z ∷ []) steps) (made step column)

-- the number of the last row in a column
abbrev pub last_by : List ℤ → List RowStep → Option ℤ
last_by column steps = option_and_then (λ all. last_or None all) (column_by column steps)

-- no variables, and a negative bound: nothing meets such a row
abbrev pub is_contradiction : Row → Bool
is_contradiction row = list_all (λ a. int_eq a (pos 0)) row.coefficients && int_lt row.bound (pos 0)

-- the last row that the steps make has no variables and a negative bound
pub record MakeContradiction (n : ℕ) (rows : List Row) (steps : List RowStep) : Type 0 where
  pub coefficients : (column : ℕ) → column < n → last_by (column_of rows column) steps ≡ Some (pos 0)
  pub bound : ℤ
  pub bound_is : last_by (column_of rows n) steps ≡ Some bound
  pub negative : bound <ℤ pos 0

-- the steps check: their last row, or without steps some given row, has no variables and a negative bound
abbrev pub AreRefutation : ℕ → List Row → List RowStep → Type 0
AreRefutation n rows [] = IsTrue (list_any is_contradiction rows)
AreRefutation n rows (step ∷ steps) = MakeContradiction n rows (step ∷ steps)
