use Rattle.std.proofs.Common.{◌≡◌, drop}
use Rattle.toy_imp.specs.Block.{stmt_depth, block_depth}
use Rattle.toy_imp.specs.BlockView.{block_of}
use Rattle.swap_conditions.specs.Pairs.{clash_of}
use Rattle.swap_conditions.specs.Standing.{block_has}
use Rattle.swap_conditions.proofs.clashing.+block_clashes.Given as goal

abbrev pub decreases-block_clashes : goal.decreases-block_clashes
decreases-block_clashes l = block_depth l.b.now

abbrev pub decreases-stmt_clashes : goal.decreases-stmt_clashes
decreases-stmt_clashes l = stmt_depth l.s.now

abbrev pub invariant-block_clashes-loop-s : goal.invariant-block_clashes-loop-s
invariant-block_clashes-loop-s l = block_has (clash_of l.q) (block_of (drop l.s-index l.s-items)) ≡ block_has (clash_of l.q) (block_of l.s-items)
