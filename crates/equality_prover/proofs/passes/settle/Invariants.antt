use Rattle.std.proofs.Common.{[], map, sum}
use Rattle.law_clauses.specs.ArgumentView.{argument_of}
use Rattle.equality_prover.specs.Growth.{TakesIn}
use Rattle.equality_prover.proofs.passes.settle.Given as goal

abbrev pub invariant-loop : goal.invariant-loop
invariant-loop l = TakesIn (map argument_of l.terms) [] l.initial.classes l.classes

abbrev pub decreases-loop : goal.decreases-loop
decreases-loop l = sum l.classes
