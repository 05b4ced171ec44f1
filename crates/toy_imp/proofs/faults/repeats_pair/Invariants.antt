use Rattle.std.proofs.Common.{◌≡◌, length}
use Rattle.toy_imp.specs.Faults.{repeats_pair}
use Rattle.toy_imp.proofs.faults.repeats_pair.Given as goal

abbrev pub invariant-loop-pairs : goal.invariant-loop-pairs
invariant-loop-pairs l = repeats_pair l.pairs ≡ repeats_pair l.fn.pairs

abbrev pub decreases-loop-pairs : goal.decreases-loop-pairs
decreases-loop-pairs l = length l.pairs
