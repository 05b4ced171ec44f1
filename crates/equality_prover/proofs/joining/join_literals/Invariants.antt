use Rattle.std.proofs.Common.{take, map}
use Rattle.law_clauses.specs.Signed.{all_signed}
use Rattle.law_clauses.specs.ArgumentView.{argument_of}
use Rattle.equality_prover.specs.Growth.{TakesIn}
use Rattle.equality_prover.proofs.joining.join_literals.Given as goal

abbrev pub invariant-loop-literal : goal.invariant-loop-literal
invariant-loop-literal l = TakesIn (map argument_of l.terms) (all_signed (take l.literal-index l.literals)) l.initial.classes l.classes
