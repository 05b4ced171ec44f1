use Rattle.proof_steps.proofs.Weakening.{refutes_more}
use Rattle.proof_steps.proofs.laws.refutes_under_more.Goals as goal

pub returns : goal.returns
returns c = refutes_more
