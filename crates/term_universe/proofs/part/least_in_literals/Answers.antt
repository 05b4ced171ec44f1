use Rattle.rule_terms.specs.Parts.{literal_parts}
use Rattle.term_universe.specs.Walked.{mark_of}
use Rattle.term_universe.proofs.Walks.{item_step}
use Rattle.term_universe.proofs.part.least_in_literals.Goals as goal

pub loop-l-preserved : goal.loop-l-preserved
loop-l-preserved c =
    item_step literal_parts c.args.items.now c.loop-l.l-index c.l-item.result (mark_of c.args.low) (mark_of c.loop-l.least) (mark_of c.least_in_literal-least.result) _
    c.loop-l-test.true c.l-item.is c.least_in_literal-least.ensures c.loop-l.invariant
