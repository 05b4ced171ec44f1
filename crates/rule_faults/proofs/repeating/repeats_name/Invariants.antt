use Rattle.std.proofs.Common.{◌≡◌, drop}
use Rattle.toy_imp.specs.Faults.{repeats_name}
use Rattle.rule_faults.specs.Seen.{names_in}
use Rattle.rule_faults.proofs.Again.{names_again}
use Rattle.rule_faults.proofs.repeating.repeats_name.Given as goal

abbrev pub invariant-loop-p : goal.invariant-loop-p
invariant-loop-p l = names_again (names_in l.seen.keys) (drop l.p-index l.params) ≡ repeats_name l.params
