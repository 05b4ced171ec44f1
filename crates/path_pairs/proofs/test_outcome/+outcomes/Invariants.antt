use Rattle.std.proofs.Common.{◌+◌, ◌*◌, max}
use Rattle.toy_imp.specs.Test.{test_depth}
use Rattle.path_pairs.proofs.test_outcome.+outcomes.Given as goal

abbrev pub decreases-outcomes : goal.decreases-outcomes
decreases-outcomes l = 2 * test_depth l.t.now

abbrev pub decreases-both_so : goal.decreases-both_so
decreases-both_so l = 2 * max (test_depth l.t.now) (test_depth l.u.now) + 1

abbrev pub decreases-one_so : goal.decreases-one_so
decreases-one_so l = 2 * max (test_depth l.t.now) (test_depth l.u.now) + 1
