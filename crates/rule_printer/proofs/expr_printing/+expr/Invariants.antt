use Rattle.std.proofs.Common.{◌+◌, ◌*◌, max}
use Rattle.toy_imp.specs.Expr.{depth, depths}
use Rattle.toy_imp.specs.ExprView.{exprs_of}
use Rattle.rule_printer.proofs.expr_printing.+expr.Given as goal

abbrev pub decreases-put_expr : goal.decreases-put_expr
decreases-put_expr l = 5 * depth l.e.now

abbrev pub decreases-put_sum : goal.decreases-put_sum
decreases-put_sum l = 5 * max (depth l.a.now) (depth l.b.now) + 2

abbrev pub decreases-put_terms : goal.decreases-put_terms
decreases-put_terms l = 5 * max (depth l.a.now) (depth l.b.now) + 1

abbrev pub decreases-put_product : goal.decreases-put_product
decreases-put_product l = 5 * max (depth l.a.now) (depth l.b.now) + 2

abbrev pub decreases-put_factors : goal.decreases-put_factors
decreases-put_factors l = 5 * max (depth l.a.now) (depth l.b.now) + 1

abbrev pub decreases-put_place : goal.decreases-put_place
decreases-put_place l = 5 * depths (exprs_of l.indices.now) + 4

abbrev pub decreases-put_indices : goal.decreases-put_indices
decreases-put_indices l = 5 * depths (exprs_of l.indices.now) + 3

abbrev pub decreases-put_later : goal.decreases-put_later
decreases-put_later l = 5 * depth l.e.now + 1

abbrev pub decreases-put_one : goal.decreases-put_one
decreases-put_one l = 5 * depth l.a.now + 2

abbrev pub decreases-put_two : goal.decreases-put_two
decreases-put_two l = 5 * max (depth l.a.now) (depth l.b.now) + 2

abbrev pub decreases-put_three : goal.decreases-put_three
decreases-put_three l = 5 * max (depth l.a.now) (max (depth l.b.now) (depth l.c.now)) + 2
