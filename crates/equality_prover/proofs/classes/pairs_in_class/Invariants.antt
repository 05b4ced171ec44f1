use Rattle.std.proofs.Common.{◌≡◌, drop}
use Rattle.equality_prover.specs.Places.{pairs_in_class}
use Rattle.equality_prover.proofs.classes.pairs_in_class.Given as goal

abbrev pub invariant-loop-k : goal.invariant-loop-k
invariant-loop-k l = pairs_in_class l.classes (drop l.k l.ps) (drop l.k l.qs) ≡ pairs_in_class l.classes l.ps l.qs
