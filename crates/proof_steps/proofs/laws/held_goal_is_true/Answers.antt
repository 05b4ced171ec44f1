use Rattle.proof_steps.proofs.HeldGoals.{held_goal_is_true}
use Rattle.proof_steps.proofs.laws.held_goal_is_true.Goals as goal

pub returns : goal.returns
returns c = held_goal_is_true
