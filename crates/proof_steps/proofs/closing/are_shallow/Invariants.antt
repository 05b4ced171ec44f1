-- What is left of the literals is shallow exactly where all of them are.
use Rattle.std.proofs.Common.{◌≡◌, drop}
use Rattle.std.specs.List.{list_all}
use Rattle.proof_steps.specs.Steps.{is_shallow}
use Rattle.proof_steps.proofs.closing.are_shallow.Given as goal

abbrev pub invariant-loop-x : goal.invariant-loop-x
invariant-loop-x l = list_all is_shallow (drop l.x-index l.xs) ≡ list_all is_shallow l.xs
