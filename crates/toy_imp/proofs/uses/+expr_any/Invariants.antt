use Rattle.std.proofs.Common.{◌≡◌, ◌+◌, ◌*◌, drop}
use Rattle.toy_imp.specs.Expr.{depth, depths}
use Rattle.toy_imp.specs.ExprView.{exprs_of}
use Rattle.toy_imp.specs.Questions.{asked}
use Rattle.toy_imp.specs.Uses.{exprs_any}
use Rattle.toy_imp.proofs.uses.+expr_any.Given as goal

abbrev pub decreases-expr_any : goal.decreases-expr_any
decreases-expr_any l = 2 * depth l.e.now

abbrev pub decreases-exprs_any : goal.decreases-exprs_any
decreases-exprs_any l = 2 * depths (exprs_of l.items.now) + 1

abbrev pub invariant-exprs_any-loop-e : goal.invariant-exprs_any-loop-e
invariant-exprs_any-loop-e l = exprs_any (asked l.question) (exprs_of (drop l.e-index l.items)) ≡ exprs_any (asked l.question) (exprs_of l.items)
