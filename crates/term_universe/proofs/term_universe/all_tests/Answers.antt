use Rattle.std.proofs.Common.{map}
use Rattle.std.specs.List.{flat_map}
use Rattle.rule_terms.specs.Order.{test_same}
use Rattle.term_universe.specs.Universe.{test_of}
use Rattle.term_universe.specs.Walked.{part_of}
use Rattle.term_universe.proofs.Gathering.{add_flat_step}
use Rattle.term_universe.proofs.term_universe.all_tests.Goals as goal

pub loop-s-preserved : goal.loop-s-preserved
loop-s-preserved c =
    add_flat_step test_same (λ s. flat_map (test_of s) (map part_of c.args.parts.now)) c.args.stores.now c.loop-s.s-index c.s-item.result c.loop-s.tests c.add_tests.new.tests _
    c.loop-s-test.true c.s-item.is c.in_ok-add_tests.ensures c.loop-s.invariant
