use Rattle.std.proofs.Common.{◌≡◌, ◌+◌, ◌*◌, drop}
use Rattle.toy_imp.specs.Expr.{depth, depths}
use Rattle.toy_imp.specs.ExprView.{exprs_of}
use Rattle.side_conditions.specs.Places.{exprs_have}
use Rattle.side_conditions.specs.Seeking.{sought}
use Rattle.side_conditions.proofs.places.+expr_has.Given as goal

abbrev pub decreases-expr_has : goal.decreases-expr_has
decreases-expr_has l = 2 * depth l.e.now

abbrev pub decreases-exprs_have : goal.decreases-exprs_have
decreases-exprs_have l = 2 * depths (exprs_of l.items.now) + 1

abbrev pub invariant-exprs_have-loop-e : goal.invariant-exprs_have-loop-e
invariant-exprs_have-loop-e l = exprs_have (sought l.wanted) (exprs_of (drop l.e-index l.items)) ≡ exprs_have (sought l.wanted) (exprs_of l.items)
