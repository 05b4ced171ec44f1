use Rattle.std.proofs.Common.{◌≡◌, [], min, max, ◌^◌, ◌-◌, drop}
use Rattle.toy_imp.specs.Block.{stmt_depth, block_depth}
use Rattle.toy_imp.specs.BlockView.{block_of}
use Rattle.toy_imp.specs.BlockGrammar.{stmts_operators}
use Rattle.toy_imp.specs.BlockCanonical.{canonical_block}
use Rattle.toy_imp.proofs.operators.+block.Given as goal

abbrev pub decreases-block_operators : goal.decreases-block_operators
decreases-block_operators l = block_depth l.b.now

abbrev pub decreases-stmt_operators : goal.decreases-stmt_operators
decreases-stmt_operators l = stmt_depth l.s.now

abbrev pub invariant-block_operators-loop-s : goal.invariant-block_operators-loop-s
invariant-block_operators-loop-s l =
    max l.most (min (stmts_operators (canonical_block [] (block_of (drop l.s-index l.s-items)))) (2 ^ 64 - 1))
    ≡ min (stmts_operators (canonical_block [] (block_of l.s-items))) (2 ^ 64 - 1)
