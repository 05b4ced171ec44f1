use Rattle.std.proofs.Common.{◌≡◌, ◌++◌, take, map}
use Rattle.law_clauses.specs.Arguments.{of_store}
use Rattle.law_clauses.specs.ArgumentView.{argument_of}
use Rattle.equality_prover.proofs.terms.put_stores.Given as goal

abbrev pub invariant-loop-s : goal.invariant-loop-s
invariant-loop-s l = map argument_of l.terms ≡ map argument_of l.initial.terms ++ map of_store (take l.s-index l.stores)
