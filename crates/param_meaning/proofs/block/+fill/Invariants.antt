use Rattle.std.proofs.Common.{◌≡◌, take}
use Rattle.toy_imp.specs.Block.{stmt_depth, block_depth}
use Rattle.toy_imp.specs.BlockView.{block_of}
use Rattle.toy_imp.specs.Fill.{fill}
use Rattle.param_meaning.proofs.block.+fill.Given as goal

abbrev pub decreases-fill : goal.decreases-fill
decreases-fill l = block_depth l.block.now

abbrev pub decreases-fill_stmt : goal.decreases-fill_stmt
decreases-fill_stmt l = stmt_depth l.s.now

abbrev pub invariant-fill-loop-s : goal.invariant-fill-loop-s
invariant-fill-loop-s l = l.filled ≡ fill l.by (block_of (take l.s-index l.s-items))
