use Rattle.std.proofs.Common.{ℕ, ◌<◌, length, map}
use Rattle.law_clauses.specs.ArgumentView.{argument_of}
use Rattle.equality_prover.specs.Growth.{IsSettled, Passed}
use Rattle.equality_prover.proofs.passes.join_all.Given as goal

abbrev pub invariant-loop-i : goal.invariant-loop-i
invariant-loop-i l = Passed (map argument_of l.terms) l.initial.classes l.classes ((i : ℕ) → i < l.i → (j : ℕ) → j < length l.terms → IsSettled (map argument_of l.terms) l.classes i j) l.joined
