use Rattle.std.proofs.Common.{◌≡◌, drop}
use Rattle.toy_imp.specs.Block.{stmt_depth, block_depth}
use Rattle.toy_imp.specs.BlockView.{block_of}
use Rattle.loop_sides.specs.Setting.{block_holds}
use Rattle.loop_sides.proofs.setting.+holds.Given as goal

abbrev pub decreases-block_holds : goal.decreases-block_holds
decreases-block_holds l = block_depth l.b.now

abbrev pub decreases-stmt_holds : goal.decreases-stmt_holds
decreases-stmt_holds l = stmt_depth l.s.now

abbrev pub invariant-block_holds-loop-s : goal.invariant-block_holds-loop-s
invariant-block_holds-loop-s l = block_holds l.k (block_of (drop l.s-index l.s-items)) ≡ block_holds l.k (block_of l.s-items)
