use Rattle.std.proofs.Common.{◌≡◌, ◌+◌, drop}
use Rattle.toy_imp.specs.Block.{stmt_depth, block_depth}
use Rattle.toy_imp.specs.BlockView.{block_of}
use Rattle.toy_imp.specs.Points.{point_count}
use Rattle.path_pairs.specs.Along.{passes}
use Rattle.path_pairs.proofs.along.+passes.Given as goal

abbrev pub decreases-passes : goal.decreases-passes
decreases-passes l = block_depth l.b.now

abbrev pub decreases-stmt_passes : goal.decreases-stmt_passes
decreases-stmt_passes l = stmt_depth l.s.now

abbrev pub invariant-passes-loop-s : goal.invariant-passes-loop-s
invariant-passes-loop-s l = record {
  numbered : l.n + point_count (block_of (drop l.s-index l.s-items)) ≡ l.first + point_count l.b;
  left : passes l.cuts l.n (block_of (drop l.s-index l.s-items)) ≡ passes l.cuts l.first l.b;
}
