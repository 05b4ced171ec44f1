-- What is left of the list has the literal exactly where the whole list has.
use Rattle.std.proofs.Common.{◌≡◌, drop}
use Rattle.std.specs.List.{list_any}
use Rattle.law_clauses.specs.Signed.{signed_of, signed_same}
use Rattle.proof_steps.specs.Ways.{all_listed}
use Rattle.proof_steps.proofs.assumed.is_listed.Given as goal

abbrev pub invariant-loop-y : goal.invariant-loop-y
invariant-loop-y l = list_any (signed_same (signed_of l.x)) (all_listed (drop l.y-index l.xs)) ≡ list_any (signed_same (signed_of l.x)) (all_listed l.xs)
