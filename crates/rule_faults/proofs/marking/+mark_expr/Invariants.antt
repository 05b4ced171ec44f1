use Rattle.std.proofs.Common.{◌≡◌, ◌+◌, ◌*◌, drop}
use Rattle.toy_imp.specs.Expr.{depth, depths}
use Rattle.toy_imp.specs.ExprView.{exprs_of}
use Rattle.rule_faults.specs.Marks.{exprs_marked}
use Rattle.rule_faults.proofs.marking.+mark_expr.Given as goal

abbrev pub decreases-mark_expr : goal.decreases-mark_expr
decreases-mark_expr l = 2 * depth l.e.now

abbrev pub decreases-mark_exprs : goal.decreases-mark_exprs
decreases-mark_exprs l = 2 * depths (exprs_of l.items.now) + 1

abbrev pub invariant-mark_exprs-loop-e : goal.invariant-mark_exprs-loop-e
invariant-mark_exprs-loop-e l = exprs_marked (exprs_of (drop l.e-index l.items)) l.marks ≡ exprs_marked (exprs_of l.items) l.initial.marks
