use Rattle.std.proofs.Common.{◌≡◌, length}
use Rattle.toy_imp.specs.Faults.{repeats_name}
use Rattle.toy_imp.proofs.faults.repeats_name.Given as goal

abbrev pub invariant-loop-params : goal.invariant-loop-params
invariant-loop-params l = repeats_name l.params ≡ repeats_name l.fn.params

abbrev pub decreases-loop-params : goal.decreases-loop-params
decreases-loop-params l = length l.params
