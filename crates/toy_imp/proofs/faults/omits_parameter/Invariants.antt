use Rattle.std.proofs.Common.{◌≡◌, false}
use Rattle.toy_imp.specs.Faults.{omits_below}
use Rattle.toy_imp.proofs.faults.omits_parameter.Given as goal

abbrev pub invariant-loop-k : goal.invariant-loop-k
invariant-loop-k l = omits_below l.k l.rule.left ≡ false
