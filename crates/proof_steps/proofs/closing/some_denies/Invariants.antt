-- What is left of the steps has one that denies exactly where all of them have.
use Rattle.std.proofs.Common.{◌≡◌, drop}
use Rattle.std.specs.List.{list_any}
use Rattle.law_clauses.specs.Signed.{signed_of}
use Rattle.proof_steps.specs.Refutes.{denies}
use Rattle.proof_steps.proofs.closing.some_denies.Given as goal

abbrev pub invariant-loop-step : goal.invariant-loop-step
invariant-loop-step l = list_any (denies (signed_of l.x)) (drop l.step-index l.earlier) ≡ list_any (denies (signed_of l.x)) l.earlier
