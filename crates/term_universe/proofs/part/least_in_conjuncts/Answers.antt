use Rattle.rule_terms.specs.Parts.{conjunct_parts}
use Rattle.term_universe.specs.Walked.{mark_of}
use Rattle.term_universe.proofs.Walks.{item_step}
use Rattle.term_universe.proofs.part.least_in_conjuncts.Goals as goal

pub loop-c-preserved : goal.loop-c-preserved
loop-c-preserved c =
    item_step conjunct_parts c.args.items.now c.loop-c.c-index c.c-item.result (mark_of c.args.low) (mark_of c.loop-c.least) (mark_of c.least_in_conjunct-least.result) _
    c.loop-c-test.true c.c-item.is c.least_in_conjunct-least.ensures c.loop-c.invariant
