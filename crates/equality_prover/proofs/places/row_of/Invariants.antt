use Rattle.std.proofs.Common.{◌≡◌, ◌-◌, ◌++◌, length, drop, map}
use Rattle.law_clauses.specs.ArgumentView.{argument_of}
use Rattle.equality_prover.specs.Terms.{arguments}
use Rattle.equality_prover.specs.Places.{places_of}
use Rattle.equality_prover.proofs.places.row_of.Given as goal

abbrev pub invariant-loop-b : goal.invariant-loop-b
invariant-loop-b l = l.row ++ places_of (map argument_of l.terms) (drop (length l.row) (arguments (argument_of l.a))) ≡ places_of (map argument_of l.terms) (arguments (argument_of l.a))

abbrev pub decreases-loop-b : goal.decreases-loop-b
decreases-loop-b l = length (arguments (argument_of l.a)) - length l.row
