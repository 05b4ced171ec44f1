use Rattle.std.proofs.Common.{◌≡◌, ◌++◌, take, map}
use Rattle.law_clauses.specs.Arguments.{of_value}
use Rattle.law_clauses.specs.ArgumentView.{argument_of}
use Rattle.equality_prover.proofs.terms.put_values.Given as goal

abbrev pub invariant-loop-v : goal.invariant-loop-v
invariant-loop-v l = map argument_of l.terms ≡ map argument_of l.initial.terms ++ map of_value (take l.v-index l.values)
