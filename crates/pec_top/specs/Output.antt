-- What a command has to write for an input, and how the run ends that writes it whole: with status 0, with 1 where a rule is
-- refused, a certificate is not valid or a program does not end, with 3 where the input is refused.
use Rattle.std.specs.Prelude.{◌≡◌, ℕ, List}
use Rattle.pec_top.specs.declared.command.Command.{Command}
use Rattle.pec_top.specs.declared.command.Command.TheVariants.{Prove, Check, Print, Run}
use Rattle.pec_top.specs.declared.content.Item.{Item}
use Rattle.pec_top.specs.declared.input.Input.{Input}
use Rattle.pec_top.specs.declared.input.Input.TheVariants as input
use Rattle.pec_top.specs.declared.output.Ending.{Ending}
use Rattle.pec_top.specs.declared.output.Ending.TheVariants as ending
use Rattle.pec_top.specs.declared.output.Output.{Output}
use Rattle.pec_top.specs.CheckReport.{IsCheckReport}
use Rattle.pec_top.specs.PrintedItems.{items_text}
use Rattle.pec_top.specs.RefusalLine.{refusal_line, larger_line}
use Rattle.pec_top.specs.Report.{report_text, report_ending}
use Rattle.pec_top.specs.RunReport.{run_text, run_ending}
use Rattle.pec_top.specs.Runs.{ProgramRun, AreRuns}
use Rattle.pec_top.specs.Verdict.{verdicts}

abbrev pub status_of : Ending → ℕ
status_of ending.Done = 0
status_of ending.SomeFailed = 1
status_of ending.InputRefused = 3

-- the report on the programs among the items, each run for at most so many steps
pub record IsRunReport (steps : ℕ) (items : List Item) (output : Output) : Type 0 where
  pub runs : List ProgramRun
  pub are : AreRuns steps items runs
  pub text : output.text ≡ run_text runs
  pub ending : output.ending ≡ run_ending runs

abbrev pub ItemsOutput : Command → List Item → Output → Type 0
ItemsOutput Prove items output = output ≡ record { text = report_text (verdicts items); ending = report_ending (verdicts items) }
ItemsOutput Check items output = IsCheckReport items output
ItemsOutput Print items output = output ≡ record { text = items_text items; ending = ending.Done }
ItemsOutput (Run steps) items output = IsRunReport steps items output

-- this is what the command has to write for the input
abbrev pub OutputIs : Command → Input → Output → Type 0
OutputIs command (input.Accepted items) output = ItemsOutput command items output
OutputIs command (input.Refused refusal) output = output ≡ record { text = refusal_line refusal; ending = ending.InputRefused }
OutputIs command input.Larger output = output ≡ record { text = larger_line; ending = ending.InputRefused }

-- a command has one output for an input
abbrev pub OneOutput : Type 0
OneOutput = (command : Command) (found : Input) (a b : Output) → OutputIs command found a → OutputIs command found b → a ≡ b
