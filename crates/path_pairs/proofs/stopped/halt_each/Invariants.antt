use Rattle.path_pairs.proofs.Halting.{HaltsAdded}
use Rattle.path_pairs.proofs.stopped.halt_each.Given as goal

abbrev pub invariant-loop-outcome : goal.invariant-loop-outcome
invariant-loop-outcome l = HaltsAdded l.found l.met.literals l.met.store l.fn.all l.outcome-index l.all
