use Rattle.term_universe.specs.Walked.{mark_of}
use Rattle.term_universe.proofs.Walks.{value_step}
use Rattle.term_universe.proofs.part.+least.Goals as goal

pub least_in_values-loop-v-preserved : goal.least_in_values-loop-v-preserved
least_in_values-loop-v-preserved t c =
    value_step c.args.items.now c.loop-v.v-index c.v-item.result (mark_of c.args.low) (mark_of c.loop-v.least) (mark_of c.least_in_value-least.result) _
    c.loop-v-test.true c.v-item.is c.least_in_value-least.ensures c.loop-v.invariant
