use Rattle.std.proofs.Common.{◌≡◌, drop}
use Rattle.toy_imp.specs.Block.{stmt_depth, block_depth}
use Rattle.toy_imp.specs.BlockView.{block_of}
use Rattle.rule_faults.specs.Marks.{block_marked}
use Rattle.rule_faults.proofs.marking.+mark_block.Given as goal

abbrev pub decreases-mark_block : goal.decreases-mark_block
decreases-mark_block l = block_depth l.b.now

abbrev pub decreases-mark_stmt : goal.decreases-mark_stmt
decreases-mark_stmt l = stmt_depth l.s.now

abbrev pub invariant-mark_block-loop-s : goal.invariant-mark_block-loop-s
invariant-mark_block-loop-s l = block_marked (block_of (drop l.s-index l.s-items)) l.marks ≡ block_marked (block_of l.s-items) l.initial.marks
