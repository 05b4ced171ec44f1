-- A leaf in two parts: its steps, and how it ends.
use Rattle.std.specs.Prelude.{Bool, true, false, ◌&&◌, List, [], ◌∷◌, ◌++◌}
use Rattle.rule_terms.specs.declared.obligation.Obligation.{Obligation}
use Rattle.law_clauses.specs.Signed.{Signed, signed_of}
use Rattle.refutations.specs.declared.refutation.Step.{Step}
use Rattle.proof_steps.specs.Steps.{step_holds}
use Rattle.proof_steps.specs.Refutes.{closes}

-- each step follows from those before
unfoldable pub steps_hold : Obligation → List Signed → List Step → List Step → Bool
steps_hold ob given earlier [] = true
steps_hold ob given earlier (s ∷ more) = step_holds ob given earlier s && steps_hold ob given (earlier ++ s ∷ []) more

-- the last one closes the leaf
unfoldable pub last_closes : List Step → List Step → Bool
last_closes earlier [] = false
last_closes earlier (s ∷ []) = closes earlier (signed_of s.gives)
last_closes earlier (s ∷ t ∷ more) = last_closes (earlier ++ s ∷ []) (t ∷ more)
