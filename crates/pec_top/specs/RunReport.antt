-- The text of `run`: a report on each program in order, with how it ran and the cells that it left, and a last one which counts
-- the programs by how they ran.
use Rattle.std.specs.Prelude.{◌≡◌, ℕ, ℤ, Bool, true, false, List, [], ◌∷◌, ◌++◌, length, codes, flat_map, map, count_by}
use Rattle.std.specs.Fmt.{signed_decimal}
use Rattle.std.specs.List.{list_all}
use Rattle.toy_run.specs.declared.cell.Cell.{Cell}
use Rattle.toy_run.specs.declared.ran.Ran.{Ran}
use Rattle.toy_run.specs.declared.ran.Ran.TheVariants as ran
use Rattle.pec_top.specs.declared.content.Item.{Item}
use Rattle.pec_top.specs.declared.output.Ending.{Ending}
use Rattle.pec_top.specs.declared.run_report.Outcome.{Outcome}
use Rattle.pec_top.specs.declared.run_report.Outcome.TheVariants as outcome
use Rattle.pec_top.specs.Report.{count_line, ending_of_all}
use Rattle.pec_top.specs.Runs.{ProgramRun, AreRuns}

-- ---- the report on a program
abbrev pub next_index_text : ℤ → List ℕ
next_index_text index = codes ", " ++ signed_decimal index

-- nothing for a variable, else the indices in brackets
abbrev pub indices_text : List ℤ → List ℕ
indices_text [] = []
indices_text (index ∷ more) = codes "[" ++ (signed_decimal index ++ (flat_map next_index_text more ++ codes "]"))

abbrev pub cell_line : Cell → List ℕ
cell_line cell = cell.name ++ (indices_text cell.indices ++ (codes " = " ++ (signed_decimal cell.value ++ codes "\n")))

abbrev pub cell_lines : List Cell → List ℕ
cell_lines cells = flat_map cell_line cells

-- how the program ran, and the cells of the store in which it ended or halted
abbrev pub ran_text : Ran → List ℕ
ran_text (ran.Ended cells steps) = count_line (codes "ended ") steps ++ cell_lines cells
ran_text (ran.Halted cells steps) = count_line (codes "halted ") steps ++ cell_lines cells
ran_text ran.Spent = codes "spent\n"
ran_text (ran.Wide step) = count_line (codes "wide ") step

abbrev pub program_report : ProgramRun → List ℕ
program_report run = codes "report " ++ (run.title ++ (codes "\n" ++ (ran_text run.ran ++ codes "end\n")))

-- ---- the last report
abbrev pub outcome_of : Ran → Outcome
outcome_of (ran.Ended cells steps) = outcome.Ended
outcome_of (ran.Halted cells steps) = outcome.Halted
outcome_of ran.Spent = outcome.Spent
outcome_of (ran.Wide step) = outcome.Wide

abbrev pub has_ended : Outcome → Bool
has_ended outcome.Ended = true
has_ended outcome.Halted = false
has_ended outcome.Spent = false
has_ended outcome.Wide = false

abbrev pub has_halted : Outcome → Bool
has_halted outcome.Ended = false
has_halted outcome.Halted = true
has_halted outcome.Spent = false
has_halted outcome.Wide = false

abbrev pub is_spent : Outcome → Bool
is_spent outcome.Ended = false
is_spent outcome.Halted = false
is_spent outcome.Spent = true
is_spent outcome.Wide = false

abbrev pub is_wide : Outcome → Bool
is_wide outcome.Ended = false
is_wide outcome.Halted = false
is_wide outcome.Spent = false
is_wide outcome.Wide = true

abbrev pub outcome_counts : List Outcome → List ℕ
outcome_counts all =
    count_line (codes "programs ") (length all)
    ++ (count_line (codes "ended ") (count_by has_ended all)
    ++ (count_line (codes "halted ") (count_by has_halted all)
    ++ (count_line (codes "spent ") (count_by is_spent all) ++ count_line (codes "wide ") (count_by is_wide all))))

abbrev pub last_report : List Outcome → List ℕ
last_report all = codes "report run\n" ++ (outcome_counts all ++ codes "end\n")

-- ---- the whole
abbrev pub outcomes_of : List ProgramRun → List Outcome
outcomes_of runs = map (λ run. outcome_of run.ran) runs

abbrev pub run_text : List ProgramRun → List ℕ
run_text runs = flat_map program_report runs ++ last_report (outcomes_of runs)

-- each program ended, or some did not
abbrev pub run_ending : List ProgramRun → Ending
run_ending runs = ending_of_all (list_all has_ended (outcomes_of runs))

-- the programs among these items were run, the report on each was put, and how it ran was added
pub record Reports (steps : ℕ) (items : List Item) (outcomes outcomes' : List Outcome) (out out' : List ℕ) : Type 0 where
  pub runs : List ProgramRun
  pub are : AreRuns steps items runs
  pub outcomes_are : outcomes' ≡ outcomes ++ outcomes_of runs
  pub out_is : out' ≡ out ++ flat_map program_report runs
