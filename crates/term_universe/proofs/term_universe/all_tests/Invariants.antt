use Rattle.std.proofs.Common.{◌≡◌, [], map, drop}
use Rattle.std.specs.List.{flat_map}
use Rattle.rule_terms.specs.Order.{test_same}
use Rattle.rule_terms.specs.Added.{added_all}
use Rattle.term_universe.specs.Universe.{test_of}
use Rattle.term_universe.specs.Walked.{part_of}
use Rattle.term_universe.proofs.term_universe.all_tests.Given as goal

abbrev pub invariant-loop-s : goal.invariant-loop-s
invariant-loop-s l = added_all test_same l.tests (flat_map (λ s. flat_map (test_of s) (map part_of l.parts)) (drop l.s-index l.stores)) ≡ added_all test_same [] (flat_map (λ s. flat_map (test_of s) (map part_of l.parts)) l.stores)
