use Rattle.std.proofs.Common.{◌≡◌, ◌+◌, ◌*◌, drop}
use Rattle.toy_imp.specs.Expr.{depth, depths}
use Rattle.toy_imp.specs.ExprView.{exprs_of}
use Rattle.side_conditions.specs.Places.{exprs_have}
use Rattle.swap_conditions.specs.Pairs.{clash_of}
use Rattle.swap_conditions.proofs.clashing.+expr_clashes.Given as goal

abbrev pub decreases-expr_clashes : goal.decreases-expr_clashes
decreases-expr_clashes l = 2 * depth l.e.now

abbrev pub decreases-exprs_clash : goal.decreases-exprs_clash
decreases-exprs_clash l = 2 * depths (exprs_of l.items.now) + 1

abbrev pub invariant-exprs_clash-loop-e : goal.invariant-exprs_clash-loop-e
invariant-exprs_clash-loop-e l = exprs_have (clash_of l.q) (exprs_of (drop l.e-index l.items)) ≡ exprs_have (clash_of l.q) (exprs_of l.items)
