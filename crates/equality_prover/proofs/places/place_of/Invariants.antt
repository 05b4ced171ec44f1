use Rattle.std.proofs.Common.{◌≡◌, ◌+◌, drop, map}
use Rattle.law_clauses.specs.ArgumentView.{argument_of}
use Rattle.equality_prover.specs.Places.{place_of}
use Rattle.equality_prover.proofs.places.place_of.Given as goal

abbrev pub invariant-loop-i : goal.invariant-loop-i
invariant-loop-i l = l.i + place_of (map argument_of (drop l.i l.terms)) (argument_of l.a) ≡ place_of (map argument_of l.terms) (argument_of l.a)
