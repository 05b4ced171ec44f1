-- How the items of rules of loops stand to those of all rules.
use Rattle.std.specs.Prelude.{◌≡◌, true}
use Rattle.toy_imp.specs.declared.rule.Rule.{Rule}
use Rattle.toy_imp.specs.Faults.{is_simulate, first_fault as general_fault}
use Rattle.loop_faults.specs.LoopFaults.{first_fault}

-- of a rule of method simulate nothing more is asked
abbrev pub SimulateAsksNoMore : Type 0
SimulateAsksNoMore = (rule : Rule) → is_simulate rule.method ≡ true → first_fault rule ≡ general_fault rule
