use Rattle.toy_imp.specs.Block.{stmt_depth, block_depth}
use Rattle.swap_conditions.proofs.sizes.+block_size.Given as goal

abbrev pub decreases-block_size : goal.decreases-block_size
decreases-block_size l = block_depth l.b.now

abbrev pub decreases-stmt_size : goal.decreases-stmt_size
decreases-stmt_size l = stmt_depth l.s.now
