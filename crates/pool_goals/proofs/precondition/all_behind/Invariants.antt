use Rattle.std.proofs.Common.{◌≡◌, ◌++◌, map, take}
use Rattle.pool_goals.specs.Before.{behind}
use Rattle.pool_goals.proofs.precondition.all_behind.Given as goal

abbrev pub invariant-loop-goal : goal.invariant-loop-goal
invariant-loop-goal l = l.all ≡ map (behind (l.left.literals ++ l.right.literals)) (take l.goal-index l.goals)
