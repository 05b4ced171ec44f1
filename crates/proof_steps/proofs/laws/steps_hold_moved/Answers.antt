use Rattle.proof_steps.proofs.Moving.{step_among_more}
use Rattle.proof_steps.proofs.laws.steps_hold_moved.Goals as goal

pub returns : goal.returns
returns c = step_among_more
