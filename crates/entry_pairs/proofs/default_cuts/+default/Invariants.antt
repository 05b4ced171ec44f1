use Rattle.toy_imp.specs.Block.{stmt_depth, block_depth}
use Rattle.entry_pairs.proofs.DownwardCuts.{Downward}
use Rattle.entry_pairs.proofs.default_cuts.+default.Given as goal

abbrev pub decreases-push_block : goal.decreases-push_block
decreases-push_block l = block_depth l.b.now

abbrev pub decreases-push_stmt : goal.decreases-push_stmt
decreases-push_stmt l = stmt_depth l.s.now

abbrev pub invariant-push_block-loop-at : goal.invariant-push_block-loop-at
invariant-push_block-loop-at l = Downward l.fn.all l.all l.after l.stmts l.at l.first l.has_par

abbrev pub decreases-push_block-loop-at : goal.decreases-push_block-loop-at
decreases-push_block-loop-at l = l.at
