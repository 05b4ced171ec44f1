use Rattle.std.proofs.Common.{◌+◌, ◌*◌, take}
use Rattle.term_pool.specs.Growth.{Extends}
use Rattle.term_pool.specs.Rebuilding.{above}
use Rattle.pool_goals.specs.Replaced.{NumbersAt, Sound}
use Rattle.pool_goals.proofs.numbers.+put_at.Given as goal

abbrev pub decreases-number_at : goal.decreases-number_at
decreases-number_at l = 3 * l.n + 2

abbrev pub decreases-node_at : goal.decreases-node_at
decreases-node_at l = 3 * l.n + 1

abbrev pub decreases-numbers_at : goal.decreases-numbers_at
decreases-numbers_at l = 3 * above l.numbers.now

abbrev pub invariant-numbers_at-loop-n : goal.invariant-numbers_at-loop-n
invariant-numbers_at-loop-n l = record {
  replaced : NumbersAt l.fn.pool l.pool l.left l.right (take l.n-index l.numbers) l.all;
  sound : Sound l.pool l.left l.right l.memo;
  kept : Extends l.fn.pool l.pool;
}
