-- What the recorded row steps make: each line of a stage is, in every column, the row of its number.
use Rattle.std.specs.Prelude.{◌≡◌, ℕ, zero, suc, ◌+◌, ◌<◌, ◌≤◌, All, ℤ, pos, List, [], ◌∷◌, length, slice_index_or, slice_get, Option, Some, true}
use Rattle.std.specs.Option.{option_and_then}
use Rattle.std.specs.List.{AllZip}
use Rattle.linear_rows.specs.declared.row.Row.{Row}
use Rattle.linear_rows.specs.declared.step.RowStep.{RowStep}
use Rattle.linear_rows.specs.declared.record.Record.{Record}
use Rattle.linear_rows.specs.declared.stage.Stage.{Stage}
use Rattle.linear_rows.specs.declared.elimination.Gathered.{Gathered}
use Rattle.linear_rows.specs.declared.elimination.Gathered.TheVariants as gathered
use Rattle.linear_rows.specs.declared.elimination.Found.{Found}
use Rattle.linear_rows.specs.declared.elimination.Found.TheVariants as found
use Rattle.linear_rows.specs.Row.{IsRowOver}
use Rattle.linear_rows.specs.Stage.{is_never_met}
use Rattle.linear_rows.specs.Steps.{column_of, made, column_by, AreRefutation}
use Rattle.linear_rows.specs.Elimination.{eliminated, IsEliminated}
use Rattle.linear_rows.specs.Found.{IsFound}
use Rattle.linear_rows.specs.declared.answer.Rows.{Rows}
use Rattle.linear_rows.specs.Lines.{lines_of}

-- the step that leaves a row as it is
abbrev pub same_row : ℕ → RowStep
same_row number = record { first = number; by = 1; second = number; times = 0; cut = 1 }

-- the number of a line in a column, where the first k variables are eliminated: their coefficients are 0
abbrev pub line_number : ℕ → ℕ → List ℤ → ℤ
line_number k column [] = pos 0
line_number zero column (b ∷ cs) = slice_index_or cs column b
line_number (suc k) zero (b ∷ cs) = pos 0
line_number (suc k) (suc column) (b ∷ cs) = line_number k column (b ∷ cs)

-- a line says these numbers of n coefficients and the bound
pub record Says (n k : ℕ) (numbers : ℕ → Option ℤ) (line : List ℤ) : Type 0 where
  pub count : k + length line ≡ n + 1
  pub each : (column : ℕ) → column ≤ n → numbers column ≡ Some (line_number k column line)

-- what stands in a column: in the row of this number once the steps are made, and in the row that one more step makes
abbrev pub row_number : List Row → List RowStep → ℕ → ℕ → Option ℤ
row_number rows steps number column = option_and_then (λ all. slice_get all number) (column_by (column_of rows column) steps)

abbrev pub next_number : List Row → List RowStep → RowStep → ℕ → Option ℤ
next_number rows steps step column = option_and_then (λ all. made step all) (column_by (column_of rows column) steps)

-- the row of this number is the line
abbrev pub IsLineOf : ℕ → ℕ → List Row → Record → ℕ → List ℤ → Type 0
IsLineOf n k rows history number line = Says n k (row_number rows history.steps.items number) line

-- the row that the next step makes is the line
abbrev pub MakesLine : ℕ → ℕ → List Row → Record → RowStep → List ℤ → Type 0
MakesLine n k rows history step line = Says n k (next_number rows history.steps.items step) line

-- each line is the row of its number
abbrev pub AreLinesOf : ℕ → ℕ → List Row → Record → List ℕ → List (List ℤ) → Type 0
AreLinesOf n k rows history numbers lines = AllZip (IsLineOf n k rows history) numbers lines

abbrev pub IsRecorded : ℕ → ℕ → List Row → Record → Stage → Type 0
IsRecorded n k rows history stage = AreLinesOf n k rows history stage.numbers.items (lines_of stage)

-- a record that went on: each row of a number is still there
pub record GoesOn (n : ℕ) (rows : List Row) (old new : Record) : Type 0 where
  pub given : new.given ≡ old.given
  pub stay : (k number : ℕ) (line : List ℤ) → IsLineOf n k rows old number line → IsLineOf n k rows new number line

-- what a stage took was recorded
abbrev pub Records : ℕ → ℕ → List Row → Record → Stage → Record → Stage → Type 0
Records n k rows old stage new next = old.given ≡ length rows → IsRecorded n k rows old stage → GoesOn n rows old new × IsRecorded n k rows new next

-- a stage that is whole is recorded
abbrev pub IsGatheredRecorded : ℕ → ℕ → List Row → Record → Gathered → Type 0
IsGatheredRecorded n k rows history (gathered.Whole stage) = IsRecorded n k rows history stage
IsGatheredRecorded n k rows history (gathered.Passed what) = Unit {0}

-- the row of this number is never met
pub record IsNeverRecorded (n : ℕ) (rows : List Row) (history : Record) (number : ℕ) : Type 0 where
  pub given : history.given ≡ length rows
  pub k : ℕ
  pub line : List ℤ
  pub is : IsLineOf n k rows history number line
  pub never : is_never_met line ≡ true

abbrev pub IsFoundRecorded : ℕ → List Row → Record → Found → Type 0
IsFoundRecorded n rows history (found.Never number) = IsNeverRecorded n rows history number
IsFoundRecorded n rows history _ = Unit {0}

-- ---- what is recorded by taking, whatever the rows are

-- the row that a step makes has this number
abbrev pub Numbers : Record → RowStep → Record → ℕ → Type 0
Numbers old step new number = (n k : ℕ) (rows : List Row) (line : List ℤ) → old.given ≡ length rows → MakesLine n k rows old step line → GoesOn n rows old new × IsLineOf n k rows new number line

-- a line that a step makes, or that is the row of a number
abbrev pub RecordsStep : RowStep → List ℤ → Record → Stage → Record → Stage → Type 0
RecordsStep step line old stage new next = (n k : ℕ) (rows : List Row) → MakesLine n k rows old step line → Records n k rows old stage new next

abbrev pub RecordsLine : ℕ → List ℤ → Record → Stage → Record → Stage → Type 0
RecordsLine number line old stage new next = (n k : ℕ) (rows : List Row) → IsLineOf n k rows old number line → Records n k rows old stage new next

-- the given rows, before any step
abbrev pub RecordsRows : List Row → Record → Stage → Record → Stage → Type 0
RecordsRows rows old stage new next = (n : ℕ) → All (IsRowOver n) rows → old.steps.items ≡ [] → Records n zero rows old stage new next

-- what the next stage takes of a line of this number, or of a lower bound and another line, or of a lower bound
-- and all lines, or of all lines
abbrev pub RecordsNext : ℕ → List ℤ → Record → Stage → Record → Stage → Type 0
RecordsNext number line old stage new next = (n k : ℕ) (rows : List Row) → k < n → IsLineOf n k rows old number line → Records n (suc k) rows old stage new next

abbrev pub RecordsSum : ℕ → List ℤ → ℕ → List ℤ → Record → Stage → Record → Stage → Type 0
RecordsSum number p other q old stage new next =
    (n k : ℕ) (rows : List Row) → k < n → IsLineOf n k rows old number p → IsLineOf n k rows old other q → Records n (suc k) rows old stage new next

abbrev pub RecordsSums : ℕ → List ℤ → List ℕ → List (List ℤ) → Record → Stage → Record → Stage → Type 0
RecordsSums number p numbers lines old stage new next =
    (n k : ℕ) (rows : List Row) → k < n → IsLineOf n k rows old number p → AreLinesOf n k rows old numbers lines → Records n (suc k) rows old stage new next

abbrev pub RecordsAll : List ℕ → List (List ℤ) → Record → Stage → Record → Stage → Type 0
RecordsAll numbers lines old stage new next = (n k : ℕ) (rows : List Row) → k < n → AreLinesOf n k rows old numbers lines → Records n (suc k) rows old stage new next

-- a stage that was gathered, of the rows or of the stage before it
abbrev pub RecordsFirst : List Row → Record → Record → Gathered → Type 0
RecordsFirst rows old new stage =
    (n : ℕ) → All (IsRowOver n) rows → old.steps.items ≡ [] → old.given ≡ length rows → GoesOn n rows old new × IsGatheredRecorded n zero rows new stage

abbrev pub RecordsGathered : Stage → Record → Record → Gathered → Type 0
RecordsGathered stage old new next =
    (n k : ℕ) (rows : List Row) → k < n → old.given ≡ length rows → IsRecorded n k rows old stage → GoesOn n rows old new × IsGatheredRecorded n (suc k) rows new next

-- what a stage of n variables comes to, after k were eliminated
abbrev pub RecordsFound : ℕ → ℕ → Stage → Record → Record → Found → Type 0
RecordsFound n k stage old new more = (rows : List Row) → old.given ≡ length rows → IsRecorded (k + n) k rows old stage → IsFoundRecorded (k + n) rows new more

-- a row that is never met stays
abbrev pub StaysFound : Found → Found → Type 0
StaysFound old new = (n : ℕ) (rows : List Row) (history : Record) → IsFoundRecorded n rows history old → IsFoundRecorded n rows history new

-- the number of a line that is never met
pub record IsNumberOfNever (numbers : List ℕ) (lines : List (List ℤ)) (number : ℕ) : Type 0 where
  pub i : ℕ
  pub within : i < length lines
  pub is : number ≡ slice_index_or numbers i 0
  pub never : is_never_met (slice_index_or lines i []) ≡ true

-- the steps up to the row of this number show that nothing meets the rows
abbrev pub Shows : Record → ℕ → List RowStep → Type 0
Shows history number steps = (n : ℕ) (rows : List Row) → All (IsRowOver n) rows → IsNeverRecorded n rows history number → AreRefutation n rows steps

-- the answer by what was found
abbrev pub Answers : Record → Found → Rows → Type 0
Answers history more answer = (n : ℕ) (rows : List Row) → All (IsRowOver n) rows → IsFound (eliminated n rows) more → IsFoundRecorded n rows history more → IsEliminated n rows answer
