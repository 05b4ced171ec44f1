use Rattle.std.proofs.Common.{◌≡◌, take, map}
use Rattle.law_clauses.specs.ArgumentView.{argument_of}
use Rattle.equality_prover.specs.Places.{table_of}
use Rattle.equality_prover.proofs.places.table_of.Given as goal

abbrev pub invariant-loop-a : goal.invariant-loop-a
invariant-loop-a l = l.table ≡ table_of (map argument_of l.terms) (map argument_of (take l.a-index l.terms))
