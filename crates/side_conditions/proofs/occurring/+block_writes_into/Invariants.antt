use Rattle.std.proofs.Common.{◌≡◌, drop}
use Rattle.toy_imp.specs.Cell.{spelled}
use Rattle.toy_imp.specs.Block.{stmt_depth, block_depth}
use Rattle.toy_imp.specs.BlockView.{block_of}
use Rattle.side_conditions.specs.Places.{block_writes}
use Rattle.side_conditions.specs.ByText.{occurs}
use Rattle.side_conditions.proofs.occurring.+block_writes_into.Given as goal

abbrev pub decreases-block_writes_into : goal.decreases-block_writes_into
decreases-block_writes_into l = block_depth l.b.now

abbrev pub decreases-stmt_writes_into : goal.decreases-stmt_writes_into
decreases-stmt_writes_into l = stmt_depth l.s.now

abbrev pub invariant-block_writes_into-loop-s : goal.invariant-block_writes_into-loop-s
invariant-block_writes_into-loop-s l = block_writes (λ x is. occurs l.f (spelled x)) (block_of (drop l.s-index l.s-items)) ≡ block_writes (λ x is. occurs l.f (spelled x)) (block_of l.s-items)
