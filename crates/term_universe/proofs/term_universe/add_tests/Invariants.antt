use Rattle.std.proofs.Common.{◌≡◌, map, drop}
use Rattle.std.specs.List.{flat_map}
use Rattle.rule_terms.specs.Order.{test_same}
use Rattle.rule_terms.specs.Added.{added_all}
use Rattle.term_universe.specs.Universe.{test_of}
use Rattle.term_universe.specs.Walked.{part_of}
use Rattle.term_universe.proofs.term_universe.add_tests.Given as goal

abbrev pub invariant-loop-part : goal.invariant-loop-part
invariant-loop-part l = added_all test_same l.tests (flat_map (test_of l.s) (map part_of (drop l.part-index l.parts))) ≡ added_all test_same l.fn.tests (flat_map (test_of l.s) (map part_of l.parts))
