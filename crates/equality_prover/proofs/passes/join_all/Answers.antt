use Rattle.std.proofs.Common.{ℕ, ◌<◌, length, map}
use Rattle.law_clauses.specs.ArgumentView.{argument_of}
use Rattle.equality_prover.specs.Growth.{IsSettled}
use Rattle.equality_prover.proofs.Passing.{then_passed, else_passed}
use Rattle.equality_prover.proofs.passes.join_all.Goals as goal
use Rattle.equality_prover.proofs.passes.join_all.Goals.{then-join_row, else-join_row}

pub loop-i-preserved : goal.loop-i-preserved
loop-i-preserved c =
    elim c.if-join_row.branch [
      | then-join_row w ↦
          then_passed (map argument_of c.args.terms.now) (λ cs i. (j : ℕ) → j < length c.args.terms.now → IsSettled (map argument_of c.args.terms.now) cs i j) c.loop-i.i
          c.args.classes.now c.loop-i.classes c.join_row.new.classes c.loop-i.joined c.if-join_row.joined c.loop-i.invariant w.if-join_row.ensures w.joined-is
      | else-join_row w ↦
          else_passed (map argument_of c.args.terms.now) (λ cs i. (j : ℕ) → j < length c.args.terms.now → IsSettled (map argument_of c.args.terms.now) cs i j) c.loop-i.i
          c.args.classes.now c.loop-i.classes c.join_row.new.classes c.loop-i.joined c.if-join_row.joined c.loop-i.invariant w.if-join_row.ensures w.joined-is
    ]
