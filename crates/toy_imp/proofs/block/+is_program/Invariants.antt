use Rattle.std.proofs.Common.{◌≡◌, drop}
use Rattle.toy_imp.specs.Block.{stmt_depth, block_depth}
use Rattle.toy_imp.specs.BlockView.{block_of}
use Rattle.toy_imp.specs.Program.{is_program}
use Rattle.toy_imp.proofs.block.+is_program.Given as goal

abbrev pub decreases-Block::is_program : goal.decreases-Block::is_program
decreases-Block::is_program l = block_depth l.self.now

abbrev pub decreases-Stmt::is_closed : goal.decreases-Stmt::is_closed
decreases-Stmt::is_closed l = stmt_depth l.self.now

abbrev pub invariant-Block::is_program-loop-s : goal.invariant-Block::is_program-loop-s
invariant-Block::is_program-loop-s l = is_program (block_of (drop l.s-index l.s-items)) ≡ is_program (block_of l.s-items)
