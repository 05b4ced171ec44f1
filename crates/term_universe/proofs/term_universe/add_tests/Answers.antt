use Rattle.rule_terms.specs.Order.{test_same}
use Rattle.term_universe.specs.Universe.{test_of}
use Rattle.term_universe.specs.Walked.{part_of}
use Rattle.term_universe.proofs.Gathering.{add_step}
use Rattle.term_universe.proofs.term_universe.add_tests.Goals as goal

pub loop-part-preserved : goal.loop-part-preserved
loop-part-preserved c =
    add_step test_same part_of (test_of c.args.s.now) c.args.parts.now c.loop-part.part-index c.part-item.result c.loop-part.tests c.add_test_of.new.tests _
    c.loop-part-test.true c.part-item.is c.in_ok-add_test_of.ensures c.loop-part.invariant
