-- A command has one output for an input, since a run of a program comes to one thing.
use Rattle.std.proofs.Common.{◌≡◌, ℕ, List, [], ◌∷◌, sym, ap, ◌∙◌}
use Rattle.toy_run.proofs.Determined.{one_ran}
use Rattle.pec_top.specs.declared.command.Command.{Command}
use Rattle.pec_top.specs.declared.command.Command.TheVariants.{Prove, Check, Print, Run}
use Rattle.pec_top.specs.declared.content.Item.{Item}
use Rattle.pec_top.specs.declared.content.Item.TheVariants as item
use Rattle.pec_top.specs.declared.input.Input.{Input}
use Rattle.pec_top.specs.declared.input.Input.TheVariants as input
use Rattle.pec_top.specs.declared.output.Output.{Output}
use Rattle.pec_top.specs.CheckReport.{checks_text, checks_ending, IsCheckReport}
use Rattle.pec_top.specs.Output.{IsRunReport, ItemsOutput, OutputIs}
use Rattle.pec_top.specs.RunReport.{run_text, run_ending}
use Rattle.pec_top.specs.Runs.{ProgramRun, AreRuns}
use Rattle.pec_top.proofs.Checking.{one_checks}

one_runs : (steps : ℕ) (items : List Item) (a b : List ProgramRun) → AreRuns steps items a → AreRuns steps items b → a ≡ b
one_runs steps [] a b x y = x ∙ sym y
one_runs steps (item.Rule rule ∷ more) a b x y = one_runs steps more a b x y
one_runs steps (item.Certificate c ∷ more) a b x y = one_runs steps more a b x y
one_runs steps (item.Program program ∷ more) a b x y =
    let ran : x.0 ≡ y.0 = one_ran program.block steps x.0 y.0 x.3 y.3 in
    let others : x.1 ≡ y.1 = one_runs steps more x.1 y.1 x.4 y.4 in
    x.2 ∙ (λ j. record { title = program.title; ran = ran j } ∷ others j) ∙ sym y.2

same_output : (a b : Output) → a.text ≡ b.text → a.ending ≡ b.ending → a ≡ b
same_output a b texts endings = λ j. record { text = texts j; ending = endings j }

one_report : (steps : ℕ) (items : List Item) (a b : Output) → IsRunReport steps items a → IsRunReport steps items b → a ≡ b
one_report steps items a b x y =
    let runs : x.runs ≡ y.runs = one_runs steps items x.runs y.runs x.are y.are in
    same_output a b (x.text ∙ ap run_text runs ∙ sym y.text) (x.ending ∙ ap run_ending runs ∙ sym y.ending)

one_check_report : (items : List Item) (a b : Output) → IsCheckReport items a → IsCheckReport items b → a ≡ b
one_check_report items a b x y =
    let checks : x.checks ≡ y.checks = one_checks [] items x.checks y.checks x.are y.are in
    same_output a b (x.text ∙ ap checks_text checks ∙ sym y.text) (x.ending ∙ ap checks_ending checks ∙ sym y.ending)

one_items_output : (command : Command) (items : List Item) (a b : Output) → ItemsOutput command items a → ItemsOutput command items b → a ≡ b
one_items_output Prove items a b x y = x ∙ sym y
one_items_output Check items a b x y = one_check_report items a b x y
one_items_output Print items a b x y = x ∙ sym y
one_items_output (Run steps) items a b x y = one_report steps items a b x y

pub one_output : (command : Command) (found : Input) (a b : Output) → OutputIs command found a → OutputIs command found b → a ≡ b
one_output command (input.Accepted items) a b x y = one_items_output command items a b x y
one_output command (input.Refused refusal) a b x y = x ∙ sym y
one_output command input.Larger a b x y = x ∙ sym y
