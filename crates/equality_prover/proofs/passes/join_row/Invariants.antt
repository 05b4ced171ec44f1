use Rattle.std.proofs.Common.{ℕ, ◌<◌, map}
use Rattle.law_clauses.specs.ArgumentView.{argument_of}
use Rattle.equality_prover.specs.Growth.{IsSettled, Passed}
use Rattle.equality_prover.proofs.passes.join_row.Given as goal

abbrev pub invariant-loop-j : goal.invariant-loop-j
invariant-loop-j l = Passed (map argument_of l.terms) l.initial.classes l.classes ((j : ℕ) → j < l.j → IsSettled (map argument_of l.terms) l.classes l.i j) l.joined
