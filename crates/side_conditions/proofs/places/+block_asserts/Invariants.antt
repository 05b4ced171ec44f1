use Rattle.std.proofs.Common.{◌≡◌, drop}
use Rattle.toy_imp.specs.Block.{stmt_depth, block_depth}
use Rattle.toy_imp.specs.BlockView.{block_of}
use Rattle.side_conditions.specs.Places.{block_asserts}
use Rattle.side_conditions.proofs.places.+block_asserts.Given as goal

abbrev pub decreases-block_asserts : goal.decreases-block_asserts
decreases-block_asserts l = block_depth l.b.now

abbrev pub decreases-stmt_asserts : goal.decreases-stmt_asserts
decreases-stmt_asserts l = stmt_depth l.s.now

abbrev pub invariant-block_asserts-loop-s : goal.invariant-block_asserts-loop-s
invariant-block_asserts-loop-s l = block_asserts (block_of (drop l.s-index l.s-items)) ≡ block_asserts (block_of l.s-items)
