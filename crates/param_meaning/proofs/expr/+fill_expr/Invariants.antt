use Rattle.std.proofs.Common.{◌≡◌, ◌+◌, ◌*◌, take}
use Rattle.std.specs.Prelude.{map}
use Rattle.toy_imp.specs.Expr.{depth, depths}
use Rattle.toy_imp.specs.ExprView.{exprs_of}
use Rattle.toy_imp.specs.Fill.{fill_expr}
use Rattle.param_meaning.proofs.expr.+fill_expr.Given as goal

abbrev pub decreases-fill_expr : goal.decreases-fill_expr
decreases-fill_expr l = 2 * depth l.e.now

abbrev pub decreases-fill_exprs : goal.decreases-fill_exprs
decreases-fill_exprs l = 2 * depths (exprs_of l.es.now) + 1

abbrev pub invariant-fill_exprs-loop-e : goal.invariant-fill_exprs-loop-e
invariant-fill_exprs-loop-e l = l.all ≡ map (fill_expr l.by) (take l.e-index l.es)
