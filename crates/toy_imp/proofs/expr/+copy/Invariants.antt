use Rattle.std.proofs.Common.{◌≡◌, ◌+◌, ◌*◌, take}
use Rattle.toy_imp.specs.Expr.{depth, depths}
use Rattle.toy_imp.specs.ExprView.{exprs_of}
use Rattle.toy_imp.proofs.expr.+copy.Given as goal

abbrev pub decreases-Expr::copy : goal.decreases-Expr::copy
decreases-Expr::copy l = 2 * depth l.self.now

abbrev pub decreases-copy_all : goal.decreases-copy_all
decreases-copy_all l = 2 * depths (exprs_of l.items.now) + 1

abbrev pub invariant-copy_all-loop-e : goal.invariant-copy_all-loop-e
invariant-copy_all-loop-e l = l.all ≡ take l.e-index l.items
