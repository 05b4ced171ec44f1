use Rattle.std.proofs.Common.{◌≡◌, drop}
use Rattle.toy_imp.specs.Block.{stmt_depth, block_depth}
use Rattle.toy_imp.specs.BlockView.{block_of}
use Rattle.swap_conditions.specs.Folding as fold
use Rattle.swap_conditions.specs.Spanning.{passed}
use Rattle.swap_conditions.proofs.walks.+block_span.Given as goal

abbrev pub decreases-block_span : goal.decreases-block_span
decreases-block_span l = block_depth l.b.now

abbrev pub decreases-stmt_span : goal.decreases-stmt_span
decreases-stmt_span l = stmt_depth l.s.now

abbrev pub invariant-block_span-loop-s : goal.invariant-block_span-loop-s
invariant-block_span-loop-s l = fold.block_fold (passed l.q) (block_of (drop l.s-index l.s-items)) l.span ≡ fold.block_fold (passed l.q) (block_of l.s-items) l.fn.before
