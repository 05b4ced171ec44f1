use Rattle.proof_steps.proofs.Weakening.{branches_refute}
use Rattle.proof_steps.proofs.laws.branches_refute.Goals as goal

pub returns : goal.returns
returns c = branches_refute
