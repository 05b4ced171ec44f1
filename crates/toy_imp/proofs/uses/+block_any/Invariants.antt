use Rattle.std.proofs.Common.{◌≡◌, drop}
use Rattle.toy_imp.specs.Block.{stmt_depth, block_depth}
use Rattle.toy_imp.specs.BlockView.{block_of}
use Rattle.toy_imp.specs.Questions.{asked}
use Rattle.toy_imp.specs.Uses.{block_any}
use Rattle.toy_imp.proofs.uses.+block_any.Given as goal

abbrev pub decreases-block_any : goal.decreases-block_any
decreases-block_any l = block_depth l.b.now

abbrev pub decreases-stmt_any : goal.decreases-stmt_any
decreases-stmt_any l = stmt_depth l.s.now

abbrev pub invariant-block_any-loop-s : goal.invariant-block_any-loop-s
invariant-block_any-loop-s l = block_any (asked l.question) (block_of (drop l.s-index l.s-items)) ≡ block_any (asked l.question) (block_of l.s-items)
