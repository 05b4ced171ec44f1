use Rattle.std.proofs.Common.{◌≡◌, take}
use Rattle.equality_prover.proofs.closing.numbers.Given as goal

abbrev pub invariant-loop-class : goal.invariant-loop-class
invariant-loop-class l = l.all ≡ take l.class-index l.classes
