use Rattle.std.proofs.Common.{◌≡◌, drop}
use Rattle.toy_imp.specs.Block.{stmt_depth, block_depth}
use Rattle.toy_imp.specs.BlockView.{block_of}
use Rattle.side_conditions.specs.Places.{block_writes}
use Rattle.side_conditions.specs.Seeking.{sought}
use Rattle.side_conditions.proofs.places.+block_writes.Given as goal

abbrev pub decreases-block_writes : goal.decreases-block_writes
decreases-block_writes l = block_depth l.b.now

abbrev pub decreases-stmt_writes : goal.decreases-stmt_writes
decreases-stmt_writes l = stmt_depth l.s.now

abbrev pub invariant-block_writes-loop-s : goal.invariant-block_writes-loop-s
invariant-block_writes-loop-s l = block_writes (sought l.wanted) (block_of (drop l.s-index l.s-items)) ≡ block_writes (sought l.wanted) (block_of l.s-items)
