-- Worked rows of definitions, of which no input shows some as long as no `chain` section is accepted: which titles are seen, what
-- becomes of a rule and of a `chain` section, and how the program ends that ran some programs.
use Rattle.std.proofs.Common.{◌≡◌, true, false, [], ◌∷◌, codes, refl}
use Rattle.pec_text.specs.declared.section_data.Section.{Section}
use Rattle.pec_text.specs.declared.section_data.SectionKind.TheVariants as kind
use Rattle.toy_run.specs.declared.ran.Ran.{Ran}
use Rattle.toy_run.specs.declared.ran.Ran.TheVariants as ran
use Rattle.pec_top.specs.declared.command.Command.TheVariants.{Prove, Print, Run}
use Rattle.pec_top.specs.declared.content.Content.TheVariants as content
use Rattle.pec_top.specs.declared.content.Reason.TheVariants as reason
use Rattle.pec_top.specs.declared.output.Ending.TheVariants as ending
use Rattle.pec_top.specs.declared.run_report.Outcome.TheVariants as outcome
use Rattle.pec_top.specs.Content.{chain_content}
use Rattle.pec_top.specs.RunReport.{indices_text, outcomes_of, run_ending}
use Rattle.pec_top.specs.Runs.{ProgramRun}
use Rattle.pec_top.specs.Titles.{has_title}

-- ---- titles
abbrev chain_a : Section
chain_a = record { kind = kind.Chain; title = codes "a"; body = [] }

chain_section_seen : has_title kind.Chain (codes "a") (chain_a ∷ []) ≡ true
chain_section_seen = refl

chain_section_is_no_rule : has_title kind.Rule (codes "a") (chain_a ∷ []) ≡ false
chain_section_is_no_rule = refl

-- ---- `chain` sections: with an earlier rule of method chain, and an earlier `chain` section, of the title
first_chain : chain_content Print true false ≡ content.Refused reason.NotBuilt
first_chain = refl

second_chain : chain_content Print true true ≡ content.Refused (reason.IllFormed 15)
second_chain = refl

chain_of_no_rule : chain_content (Run 5) false false ≡ content.Refused (reason.IllFormed 15)
chain_of_no_rule = refl

chain_to_prove : chain_content Prove true false ≡ content.Refused (reason.IllFormed 14)
chain_to_prove = refl

-- ---- reports
variable : indices_text [] ≡ codes ""
variable = refl

abbrev ran_as : Ran → ProgramRun
ran_as r = record { title = codes "p"; ran = r }

all_end : run_ending (ran_as (ran.Ended [] 0) ∷ ran_as (ran.Ended [] 7) ∷ []) ≡ ending.Done
all_end = refl

no_program : run_ending [] ≡ ending.Done
no_program = refl

one_halts : run_ending (ran_as (ran.Ended [] 0) ∷ ran_as (ran.Halted [] 7) ∷ []) ≡ ending.SomeFailed
one_halts = refl

one_is_spent : run_ending (ran_as ran.Spent ∷ ran_as (ran.Ended [] 0) ∷ []) ≡ ending.SomeFailed
one_is_spent = refl

one_is_wide : run_ending (ran_as (ran.Wide 3) ∷ []) ≡ ending.SomeFailed
one_is_wide = refl

each_counted : outcomes_of (ran_as (ran.Ended [] 0) ∷ ran_as (ran.Halted [] 7) ∷ ran_as ran.Spent ∷ ran_as (ran.Wide 3) ∷ [])
    ≡ outcome.Ended ∷ outcome.Halted ∷ outcome.Spent ∷ outcome.Wide ∷ []
each_counted = refl
