use Rattle.std.proofs.Common.{◌≡◌, ◌++◌, drop}
use Rattle.toy_imp.specs.Block.{stmt_depth, block_depth}
use Rattle.toy_imp.specs.BlockView.{block_of}
use Rattle.entry_pairs.specs.PointKinds.{block_kinds}
use Rattle.entry_pairs.proofs.point_kinds.+kinds.Given as goal

abbrev pub decreases-push_kinds : goal.decreases-push_kinds
decreases-push_kinds l = block_depth l.b.now

abbrev pub decreases-push_stmt_kinds : goal.decreases-push_stmt_kinds
decreases-push_stmt_kinds l = stmt_depth l.s.now

abbrev pub invariant-push_kinds-loop-s : goal.invariant-push_kinds-loop-s
invariant-push_kinds-loop-s l = l.all ++ block_kinds (block_of (drop l.s-index l.s-items)) ≡ l.fn.all ++ block_kinds (block_of l.s-items)
