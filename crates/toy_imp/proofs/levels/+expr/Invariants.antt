use Rattle.std.proofs.Common.{◌+◌, ◌*◌}
use Rattle.toy_imp.specs.Expr.{depth, depths}
use Rattle.toy_imp.specs.ExprView.{exprs_of}
use Rattle.toy_imp.proofs.levels.+expr.Given as goal

abbrev pub decreases-expr_levels : goal.decreases-expr_levels
decreases-expr_levels l = 2 * depth l.e.now

abbrev pub decreases-indices_levels : goal.decreases-indices_levels
decreases-indices_levels l = 2 * depths (exprs_of l.indices.now) + 1
