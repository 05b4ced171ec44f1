use Rattle.std.proofs.Common.{map}
use Rattle.law_clauses.specs.ArgumentView.{argument_of}
use Rattle.equality_prover.specs.Growth.{IsSettled}
use Rattle.equality_prover.proofs.Passing.{then_passed, else_passed}
use Rattle.equality_prover.proofs.passes.join_row.Goals as goal
use Rattle.equality_prover.proofs.passes.join_row.Goals.{then-join_alike, else-join_alike}

pub loop-j-preserved : goal.loop-j-preserved
loop-j-preserved c =
    elim c.if-join_alike.branch [
      | then-join_alike w ↦
          then_passed (map argument_of c.args.terms.now) (λ cs j. IsSettled (map argument_of c.args.terms.now) cs c.args.i j) c.loop-j.j
          c.args.classes.now c.loop-j.classes c.join_alike.new.classes c.loop-j.joined c.if-join_alike.joined c.loop-j.invariant w.if-join_alike.ensures w.joined-is
      | else-join_alike w ↦
          else_passed (map argument_of c.args.terms.now) (λ cs j. IsSettled (map argument_of c.args.terms.now) cs c.args.i j) c.loop-j.j
          c.args.classes.now c.loop-j.classes c.join_alike.new.classes c.loop-j.joined c.if-join_alike.joined c.loop-j.invariant w.if-join_alike.ensures w.joined-is
    ]
