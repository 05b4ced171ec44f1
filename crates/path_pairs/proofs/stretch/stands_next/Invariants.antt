use Rattle.std.proofs.Common.{◌≡◌, drop}
use Rattle.path_pairs.specs.Stretches.{rest_of, from_next}
use Rattle.path_pairs.proofs.stretch.stands_next.Given as goal

abbrev pub invariant-loop-i : goal.invariant-loop-i
invariant-loop-i l = from_next (rest_of (drop l.i l.rest)) ≡ from_next (rest_of l.rest)
