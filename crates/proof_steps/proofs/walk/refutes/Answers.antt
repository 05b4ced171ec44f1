-- A right refutation makes its obligation hold.
use Rattle.std.proofs.Common.{sym, ◌∙◌}
use Rattle.proof_steps.specs.Refutes.{refutes}
use Rattle.proof_steps.proofs.Soundness.{refuted_holds}
use Rattle.proof_steps.proofs.walk.refutes.Goals as goal

pub returns-clause-holds : goal.returns-clause-holds
unfolding refutes
returns-clause-holds c = λ h. refuted_holds c.args.ob.now c.args.proof.now (sym c.refutes_under.ensures ∙ h)
