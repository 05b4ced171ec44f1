use Rattle.std.proofs.Common.{◌+◌, ◌*◌}
use Rattle.path_pairs.specs.Stretches.{rest_of}
use Rattle.path_pairs.proofs.Adding.{EachAdded}
use Rattle.path_pairs.proofs.walking.+walk.Given as goal

abbrev pub decreases-walk : goal.decreases-walk
decreases-walk l = 7 * l.course.steps

abbrev pub decreases-walk_outcome : goal.decreases-walk_outcome
decreases-walk_outcome l = 7 * l.course.steps + 1

abbrev pub decreases-walk_ended : goal.decreases-walk_ended
decreases-walk_ended l = 7 * l.course.steps + 1

abbrev pub decreases-walk_write : goal.decreases-walk_write
decreases-walk_write l = 7 * l.course.steps + 1

abbrev pub decreases-walk_each : goal.decreases-walk_each
decreases-walk_each l = 7 * l.course.steps + 2

abbrev pub decreases-walk_way : goal.decreases-walk_way
decreases-walk_way l = 7 * l.course.steps + 3

abbrev pub decreases-walk_test : goal.decreases-walk_test
decreases-walk_test l = 7 * l.course.steps + 4

abbrev pub decreases-walk_assert : goal.decreases-walk_assert
decreases-walk_assert l = 7 * l.course.steps + 4

abbrev pub decreases-walk_run : goal.decreases-walk_run
decreases-walk_run l = 7 * l.course.steps + 4

abbrev pub decreases-walk_stmt : goal.decreases-walk_stmt
decreases-walk_stmt l = 7 * l.course.steps + 5

abbrev pub decreases-walk_on : goal.decreases-walk_on
decreases-walk_on l = 7 * l.course.steps + 6

abbrev pub invariant-walk_each-loop-outcome : goal.invariant-walk_each-loop-outcome
invariant-walk_each-loop-outcome l = EachAdded l.course.steps l.course.cuts.now l.course.exit l.found l.met.literals l.met.store (rest_of l.rest) l.fn.all l.outcome-index l.all
