use Rattle.std.proofs.Common.{◌+◌, ◌*◌, ◌-◌, ◌^◌}
use Rattle.toy_imp.specs.Block.{stmt_depth, block_depth}
use Rattle.toy_imp.specs.BlockView.{block_of}
use Rattle.path_pairs.specs.Along.{walk_count}
use Rattle.path_pairs.proofs.Backwards.{Behind}
use Rattle.path_pairs.proofs.along.+walks.Given as goal

abbrev pub decreases-walk_count : goal.decreases-walk_count
decreases-walk_count l = 2 * block_depth l.b.now + 1

abbrev pub decreases-walks_along : goal.decreases-walks_along
decreases-walks_along l = 2 * block_depth (block_of l.stmts.now)

abbrev pub decreases-stmt_walks : goal.decreases-stmt_walks
decreases-stmt_walks l = 2 * stmt_depth l.s.now

abbrev pub invariant-walks_along-loop-at : goal.invariant-walks_along-loop-at
invariant-walks_along-loop-at l = Behind (2 ^ 64 - 1) (walk_count l.cuts) l.first l.after l.stmts l.at l.n l.count

abbrev pub decreases-walks_along-loop-at : goal.decreases-walks_along-loop-at
decreases-walks_along-loop-at l = l.at
