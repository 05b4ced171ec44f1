use Rattle.std.proofs.Common.{◌≡◌, ◌+◌, ◌*◌, drop}
use Rattle.rule_terms.specs.Term.{store_depth, value_depth, terms_depth}
use Rattle.rule_terms.specs.TermView.{terms_of}
use Rattle.rule_terms.specs.Parts.{terms_parts}
use Rattle.rule_terms.specs.Order.{part_cmp}
use Rattle.term_universe.specs.Least.{least_above}
use Rattle.term_universe.specs.Walked.{mark_of}
use Rattle.term_universe.proofs.part.+least.Given as goal

abbrev pub decreases-least_in_store : goal.decreases-least_in_store
decreases-least_in_store l = 2 * store_depth l.s.now

abbrev pub decreases-least_in_value : goal.decreases-least_in_value
decreases-least_in_value l = 2 * value_depth l.v.now

abbrev pub decreases-least_in_values : goal.decreases-least_in_values
decreases-least_in_values l = 2 * terms_depth (terms_of l.items.now) + 1

abbrev pub invariant-least_in_values-loop-v : goal.invariant-least_in_values-loop-v
invariant-least_in_values-loop-v l =
    least_above part_cmp (mark_of l.low) (mark_of l.least) (terms_parts (terms_of (drop l.v-index l.items)))
    ≡ least_above part_cmp (mark_of l.low) (mark_of l.fn.best) (terms_parts (terms_of l.items))
