use Rattle.std.proofs.Common.{◌≡◌, ◌≤◌, ◌+◌, ◌*◌, ◌-◌, ◌^◌, min, drop}
use Rattle.toy_imp.specs.Block.{stmt_depth, block_depth}
use Rattle.toy_imp.specs.BlockView.{block_of}
use Rattle.toy_imp.specs.Points.{point_count}
use Rattle.path_pairs.proofs.along.+count.Given as goal

abbrev pub decreases-block_points : goal.decreases-block_points
decreases-block_points l = 2 * block_depth l.b.now + 1

abbrev pub decreases-points_along : goal.decreases-points_along
decreases-points_along l = 2 * block_depth (block_of l.stmts.now)

abbrev pub decreases-stmt_points : goal.decreases-stmt_points
decreases-stmt_points l = 2 * stmt_depth l.s.now

abbrev pub invariant-points_along-loop-s : goal.invariant-points_along-loop-s
invariant-points_along-loop-s l = record { small : l.count ≤ 2 ^ 64 - 1; rest : min (l.count + point_count (block_of (drop l.s-index l.stmts))) (2 ^ 64 - 1) ≡ min (point_count (block_of l.stmts)) (2 ^ 64 - 1) }
