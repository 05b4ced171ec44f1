use Rattle.std.proofs.Common.{◌≡◌, take, length}
use Rattle.term_universe.proofs.term_universe.same_tests.Given as goal

abbrev pub invariant-loop-i : goal.invariant-loop-i
invariant-loop-i l = record { as_many : length l.a ≡ length l.b; before : take l.i l.a ≡ take l.i l.b }
