-- A refutation that is right makes its obligation hold.
use Rattle.proof_steps.proofs.Soundness.{refuted_holds}
use Rattle.proof_steps.proofs.laws.refuted_holds.Goals as goal

pub returns : goal.returns
returns c = refuted_holds
