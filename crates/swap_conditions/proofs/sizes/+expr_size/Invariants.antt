use Rattle.std.proofs.Common.{◌+◌, ◌*◌}
use Rattle.toy_imp.specs.Expr.{depth, depths}
use Rattle.toy_imp.specs.ExprView.{exprs_of}
use Rattle.swap_conditions.proofs.sizes.+expr_size.Given as goal

abbrev pub decreases-expr_size : goal.decreases-expr_size
decreases-expr_size l = 2 * depth l.e.now

abbrev pub decreases-exprs_size : goal.decreases-exprs_size
decreases-exprs_size l = 2 * depths (exprs_of l.items.now) + 1
