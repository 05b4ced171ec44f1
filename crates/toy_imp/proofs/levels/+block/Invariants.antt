use Rattle.std.proofs.Common.{◌≡◌, [], min, max, ◌^◌, ◌-◌, drop}
use Rattle.toy_imp.specs.Block.{stmt_depth, block_depth}
use Rattle.toy_imp.specs.BlockView.{block_of}
use Rattle.toy_imp.specs.BlockGrammar.{stmts_levels}
use Rattle.toy_imp.specs.BlockCanonical.{canonical_block}
use Rattle.toy_imp.proofs.levels.+block.Given as goal

abbrev pub decreases-block_levels : goal.decreases-block_levels
decreases-block_levels l = block_depth l.b.now

abbrev pub decreases-stmt_levels : goal.decreases-stmt_levels
decreases-stmt_levels l = stmt_depth l.s.now

abbrev pub invariant-block_levels-loop-s : goal.invariant-block_levels-loop-s
invariant-block_levels-loop-s l =
    max l.most (min (stmts_levels (canonical_block [] (block_of (drop l.s-index l.s-items)))) (2 ^ 64 - 1))
    ≡ min (stmts_levels (canonical_block [] (block_of l.s-items))) (2 ^ 64 - 1)
