-- What the code has found, in the words of the elimination.
use Rattle.std.specs.Prelude.{◌≡◌, ℤ, List, [], map, All, Option, None, Some, Ok, Err}
use Rattle.linear_rows.specs.declared.stage.Stage.{Stage}
use Rattle.linear_rows.specs.declared.answer.RowKind.{RowKind}
use Rattle.linear_rows.specs.declared.row.Row.{Row}
use Rattle.linear_rows.specs.declared.elimination.Gathered.{Gathered}
use Rattle.linear_rows.specs.declared.elimination.Gathered.TheVariants.{Whole, Passed}
use Rattle.linear_rows.specs.declared.elimination.Found.{Found}
use Rattle.linear_rows.specs.declared.elimination.Found.TheVariants.{Never, Point, Limit}
use Rattle.linear_rows.specs.Fractions.{IsProper}
use Rattle.linear_rows.specs.Stage.{line_of, gathered, next_stage, IsSmall}
use Rattle.linear_rows.specs.Lines.{lines_of}
use Rattle.linear_rows.specs.Elimination.{Outcome, empty, point, limit}

-- the stage after a stage, or the limit that it passes
abbrev pub IsNext : List (List ℤ) → Gathered → Type 0
IsNext old (Whole stage) = (next_stage old ≡ Ok (lines_of stage)) × All IsSmall (lines_of stage)
IsNext old (Passed what) = next_stage old ≡ Err what

-- stage 0
abbrev pub IsFirst : List Row → Gathered → Type 0
IsFirst rows (Whole stage) = (gathered [] (map line_of rows) ≡ Ok (lines_of stage)) × All IsSmall (lines_of stage)
IsFirst rows (Passed what) = gathered [] (map line_of rows) ≡ Err what

-- the stage, or the limit that it passes
abbrev pub gathered_by : Stage → Option RowKind → Gathered
gathered_by stage None = Whole stage
gathered_by stage (Some what) = Passed what

-- what a stage comes to
abbrev pub IsFound : Outcome → Found → Type 0
IsFound outcome (Never number) = outcome ≡ empty
IsFound outcome (Point xs) = (outcome ≡ point xs.items) × All IsProper xs.items
IsFound outcome (Limit mark) = outcome ≡ limit mark

-- its fractions are small
abbrev pub IsProperFound : Found → Type 0
IsProperFound (Point xs) = All IsProper xs.items
IsProperFound _ = Unit {0}
