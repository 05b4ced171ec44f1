use Rattle.std.proofs.Common.{◌≡◌, ◌++◌, drop, map}
use Rattle.law_clauses.specs.Arguments.{of_name}
use Rattle.law_clauses.specs.ArgumentView.{argument_of}
use Rattle.equality_prover.specs.Terms.{names_from}
use Rattle.equality_prover.proofs.terms.put_names.Given as goal

abbrev pub invariant-loop-k : goal.invariant-loop-k
invariant-loop-k l = map argument_of l.terms ++ map of_name (names_from l.k (drop l.k l.params)) ≡ map argument_of l.initial.terms ++ map of_name (names_from 0 l.params)
