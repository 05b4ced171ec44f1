use Rattle.std.proofs.Common.{◌+◌, ◌*◌}
use Rattle.toy_imp.specs.BlockView.{block_of}
use Rattle.toy_imp.specs.Block.{stmt_depth, block_depth}
use Rattle.path_pairs.specs.Along.{most_steps}
use Rattle.path_pairs.proofs.Backwards.{Behind}
use Rattle.path_pairs.proofs.along.+steps.Given as goal

abbrev pub decreases-most_steps : goal.decreases-most_steps
decreases-most_steps l = 2 * block_depth l.b.now + 1

abbrev pub decreases-steps_along : goal.decreases-steps_along
decreases-steps_along l = 2 * block_depth (block_of l.stmts.now)

abbrev pub decreases-stmt_steps : goal.decreases-stmt_steps
decreases-stmt_steps l = 2 * stmt_depth l.s.now

abbrev pub invariant-steps_along-loop-at : goal.invariant-steps_along-loop-at
invariant-steps_along-loop-at l = Behind 65 (most_steps l.cuts) l.first l.after l.stmts l.at l.n l.most

abbrev pub decreases-steps_along-loop-at : goal.decreases-steps_along-loop-at
decreases-steps_along-loop-at l = l.at
