use Rattle.std.proofs.Common.{◌≡◌, ◌+◌, ◌*◌, drop}
use Rattle.toy_imp.specs.Expr.{depth, depths}
use Rattle.toy_imp.specs.ExprView.{exprs_of}
use Rattle.swap_conditions.specs.Folding as fold
use Rattle.swap_conditions.specs.Spanning.{passed}
use Rattle.swap_conditions.proofs.walks.+expr_span.Given as goal

abbrev pub decreases-expr_span : goal.decreases-expr_span
decreases-expr_span l = 2 * depth l.e.now

abbrev pub decreases-exprs_span : goal.decreases-exprs_span
decreases-exprs_span l = 2 * depths (exprs_of l.items.now) + 1

abbrev pub invariant-exprs_span-loop-e : goal.invariant-exprs_span-loop-e
invariant-exprs_span-loop-e l = fold.exprs_fold (passed l.q) (exprs_of (drop l.e-index l.items)) l.span ≡ fold.exprs_fold (passed l.q) (exprs_of l.items) l.fn.before
