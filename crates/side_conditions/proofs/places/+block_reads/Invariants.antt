use Rattle.std.proofs.Common.{◌≡◌, drop}
use Rattle.toy_imp.specs.Block.{stmt_depth, block_depth}
use Rattle.toy_imp.specs.BlockView.{block_of}
use Rattle.side_conditions.specs.Places.{block_reads}
use Rattle.side_conditions.specs.Seeking.{sought}
use Rattle.side_conditions.proofs.places.+block_reads.Given as goal

abbrev pub decreases-block_reads : goal.decreases-block_reads
decreases-block_reads l = block_depth l.b.now

abbrev pub decreases-stmt_reads : goal.decreases-stmt_reads
decreases-stmt_reads l = stmt_depth l.s.now

abbrev pub invariant-block_reads-loop-s : goal.invariant-block_reads-loop-s
invariant-block_reads-loop-s l = block_reads (sought l.wanted) (block_of (drop l.s-index l.s-items)) ≡ block_reads (sought l.wanted) (block_of l.s-items)
