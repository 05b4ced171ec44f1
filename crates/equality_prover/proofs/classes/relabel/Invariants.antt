use Rattle.std.proofs.Common.{◌≡◌, ℕ, ◌<◌, ◌≤◌, get_or}
use Rattle.equality_prover.specs.Growth.{relabelled}
use Rattle.equality_prover.proofs.classes.relabel.Given as goal

abbrev pub invariant-loop-class : goal.invariant-loop-class
invariant-loop-class l =
    ((k : ℕ) → k < l.class-index → get_or l.classes k 0 ≡ relabelled l.from l.into (get_or l.initial.classes k 0))
    × ((k : ℕ) → l.class-index ≤ k → get_or l.classes k 0 ≡ get_or l.initial.classes k 0)
