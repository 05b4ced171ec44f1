use Rattle.rule_terms.specs.Order.{store_same}
use Rattle.term_universe.specs.Universe.{exchanged}
use Rattle.term_universe.proofs.Gathering.{add_flat_step}
use Rattle.term_universe.proofs.exchange.add_all_exchanged.Goals as goal

pub loop-term-preserved : goal.loop-term-preserved
loop-term-preserved c =
    add_flat_step store_same (exchanged c.args.conditions.now) c.args.terms.now c.loop-term.term-index c.term-item.result c.loop-term.stores c.add_exchanged.new.stores _
    c.loop-term-test.true c.term-item.is c.in_ok-add_exchanged.ensures c.loop-term.invariant
