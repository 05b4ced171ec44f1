use Rattle.std.proofs.Common.{◌≡◌, take}
use Rattle.term_universe.proofs.term_universe.copy_tests.Given as goal

abbrev pub invariant-loop-test : goal.invariant-loop-test
invariant-loop-test l = l.all ≡ take l.test-index l.items
