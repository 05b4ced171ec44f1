use Rattle.std.proofs.Common.{◌≡◌, drop}
use Rattle.std.specs.List.{list_any}
use Rattle.rule_terms.specs.Order.{test_same}
use Rattle.term_universe.proofs.term_universe.has_test.Given as goal

abbrev pub invariant-loop-test : goal.invariant-loop-test
invariant-loop-test l = list_any (test_same (l.k, l.s)) (drop l.test-index l.tests) ≡ list_any (test_same (l.k, l.s)) l.tests
