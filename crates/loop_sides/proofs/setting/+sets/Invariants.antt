use Rattle.std.proofs.Common.{◌≡◌, drop}
use Rattle.toy_imp.specs.Block.{stmt_depth, block_depth}
use Rattle.toy_imp.specs.BlockView.{block_of}
use Rattle.loop_sides.specs.Setting.{block_sets}
use Rattle.loop_sides.proofs.setting.+sets.Given as goal

abbrev pub decreases-block_sets : goal.decreases-block_sets
decreases-block_sets l = block_depth l.b.now

abbrev pub decreases-stmt_sets : goal.decreases-stmt_sets
decreases-stmt_sets l = stmt_depth l.s.now

abbrev pub invariant-block_sets-loop-s : goal.invariant-block_sets-loop-s
invariant-block_sets-loop-s l = block_sets l.x (block_of (drop l.s-index l.s-items)) ≡ block_sets l.x (block_of l.s-items)
