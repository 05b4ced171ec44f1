use Rattle.std.proofs.Common.{◌∷◌, [], map, subst, arith}
use Rattle.law_clauses.specs.Signed.{signed_of}
use Rattle.law_clauses.specs.ArgumentView.{argument_of}
use Rattle.equality_prover.specs.Growth.{TakesIn}
use Rattle.equality_prover.proofs.Taking.{one_more_taken}
use Rattle.equality_prover.proofs.joining.join_literals.Goals as goal

pub loop-literal-preserved : goal.loop-literal-preserved
loop-literal-preserved c =
    one_more_taken (map argument_of c.args.terms.now) c.args.literals.now c.loop-literal.literal-index c.literal-item.result
    c.args.classes.now c.loop-literal.classes c.join_literal.new.classes (omega arith) c.loop-literal.invariant
    (subst (λ x. TakesIn (map argument_of c.args.terms.now) (signed_of x ∷ []) c.loop-literal.classes c.join_literal.new.classes) c.literal-item.is c.join_literal.ensures)
