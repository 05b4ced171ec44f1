use Rattle.proof_steps.proofs.Weakening.{step_more}
use Rattle.proof_steps.proofs.laws.steps_hold_under_more.Goals as goal

pub returns : goal.returns
returns c = step_more
