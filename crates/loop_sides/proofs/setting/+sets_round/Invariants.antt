use Rattle.std.proofs.Common.{◌≡◌, drop}
use Rattle.toy_imp.specs.Block.{stmt_depth, block_depth}
use Rattle.toy_imp.specs.BlockView.{block_of}
use Rattle.loop_sides.specs.Setting.{sets_round}
use Rattle.loop_sides.proofs.setting.+sets_round.Given as goal

abbrev pub decreases-sets_round : goal.decreases-sets_round
decreases-sets_round l = block_depth l.b.now

abbrev pub decreases-stmt_sets_round : goal.decreases-stmt_sets_round
decreases-stmt_sets_round l = stmt_depth l.s.now

abbrev pub invariant-sets_round-loop-s : goal.invariant-sets_round-loop-s
invariant-sets_round-loop-s l = sets_round l.x l.k (block_of (drop l.s-index l.s-items)) ≡ sets_round l.x l.k (block_of l.s-items)
