use Rattle.std.proofs.Common.{◌+◌, ◌*◌, max}
use Rattle.toy_imp.specs.Test.{test_depth}
use Rattle.toy_run.proofs.evaluate.+is_true.Given as goal

abbrev pub decreases-is_true : goal.decreases-is_true
decreases-is_true l = 2 * test_depth l.t.now

abbrev pub decreases-are_true : goal.decreases-are_true
decreases-are_true l = 2 * max (test_depth l.t.now) (test_depth l.u.now) + 1
