use Rattle.std.proofs.Common.{◌≡◌, drop}
use Rattle.toy_imp.specs.Block.{stmt_depth, block_depth}
use Rattle.toy_imp.specs.BlockView.{block_of}
use Rattle.toy_imp.specs.Faults.{has_scope}
use Rattle.toy_imp.proofs.faults.+has_scope.Given as goal

abbrev pub decreases-has_scope : goal.decreases-has_scope
decreases-has_scope l = block_depth l.b.now

abbrev pub decreases-stmt_has_scope : goal.decreases-stmt_has_scope
decreases-stmt_has_scope l = stmt_depth l.s.now

abbrev pub invariant-has_scope-loop-s : goal.invariant-has_scope-loop-s
invariant-has_scope-loop-s l = has_scope (block_of (drop l.s-index l.s-items)) ≡ has_scope (block_of l.s-items)
