use Rattle.std.proofs.Common.{◌+◌, ◌*◌}
use Rattle.toy_imp.specs.Expr.{depth, depths}
use Rattle.toy_imp.specs.ExprView.{exprs_of}
use Rattle.toy_imp.proofs.operators.+expr.Given as goal

abbrev pub decreases-expr_operators : goal.decreases-expr_operators
decreases-expr_operators l = 2 * depth l.e.now

abbrev pub decreases-indices_operators : goal.decreases-indices_operators
decreases-indices_operators l = 2 * depths (exprs_of l.indices.now) + 1
