use Rattle.std.proofs.Common.{◌≡◌, ◌+◌, ◌*◌, drop}
use Rattle.toy_imp.specs.Expr.{depth, depths}
use Rattle.toy_imp.specs.ExprView.{exprs_of}
use Rattle.toy_imp.specs.Program.{are_closed}
use Rattle.toy_imp.proofs.expr.+is_closed.Given as goal

abbrev pub decreases-Expr::is_closed : goal.decreases-Expr::is_closed
decreases-Expr::is_closed l = 2 * depth l.self.now

abbrev pub decreases-are_closed : goal.decreases-are_closed
decreases-are_closed l = 2 * depths (exprs_of l.items.now) + 1

abbrev pub invariant-are_closed-loop-e : goal.invariant-are_closed-loop-e
invariant-are_closed-loop-e l = are_closed (exprs_of (drop l.e-index l.items)) ≡ are_closed (exprs_of l.items)
