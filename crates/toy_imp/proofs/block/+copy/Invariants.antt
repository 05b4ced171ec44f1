use Rattle.std.proofs.Common.{◌≡◌, take}
use Rattle.toy_imp.specs.Block.{stmt_depth, block_depth}
use Rattle.toy_imp.proofs.block.+copy.Given as goal

abbrev pub decreases-Block::copy : goal.decreases-Block::copy
decreases-Block::copy l = block_depth l.self.now

abbrev pub decreases-Stmt::copy : goal.decreases-Stmt::copy
decreases-Stmt::copy l = stmt_depth l.self.now

abbrev pub invariant-Block::copy-loop-s : goal.invariant-Block::copy-loop-s
invariant-Block::copy-loop-s l = l.stmts ≡ take l.s-index l.s-items
