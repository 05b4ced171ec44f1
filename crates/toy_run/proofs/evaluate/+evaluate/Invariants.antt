use Rattle.std.proofs.Common.{◌≡◌, ◌+◌, ◌*◌, max, take}
use Rattle.toy_imp.specs.Expr.{depth, depths}
use Rattle.toy_imp.specs.ExprView.{exprs_of}
use Rattle.toy_imp.specs.Value.{values}
use Rattle.toy_run.specs.Narrow.{NarrowExprs}
use Rattle.toy_run.specs.Memory.{store_in}
use Rattle.toy_run.proofs.evaluate.+evaluate.Given as goal

abbrev pub decreases-evaluate : goal.decreases-evaluate
decreases-evaluate l = 3 * depth l.e.now

abbrev pub decreases-evaluate_part : goal.decreases-evaluate_part
decreases-evaluate_part l = 3 * depth l.e.now + 1

abbrev pub decreases-evaluate_sum : goal.decreases-evaluate_sum
decreases-evaluate_sum l = 3 * max (depth l.a.now) (depth l.b.now) + 2

abbrev pub decreases-evaluate_difference : goal.decreases-evaluate_difference
decreases-evaluate_difference l = 3 * max (depth l.a.now) (depth l.b.now) + 2

abbrev pub decreases-evaluate_product : goal.decreases-evaluate_product
decreases-evaluate_product l = 3 * max (depth l.a.now) (depth l.b.now) + 2

abbrev pub decreases-evaluate_all : goal.decreases-evaluate_all
decreases-evaluate_all l = 3 * depths (exprs_of l.es.now) + 2

abbrev pub invariant-evaluate_all-loop-e : goal.invariant-evaluate_all-loop-e
invariant-evaluate_all-loop-e l = (l.all.items ≡ values (exprs_of (take l.e-index l.es)) (store_in l.memory)) × NarrowExprs (exprs_of (take l.e-index l.es)) (store_in l.memory)
