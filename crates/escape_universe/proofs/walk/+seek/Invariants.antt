-- The depth falls; what is left of the terms has such a part exactly where all have.
use Rattle.std.proofs.Common.{◌≡◌, ◌+◌, ◌*◌, drop}
use Rattle.std.specs.List.{list_any}
use Rattle.rule_terms.specs.Term.{store_depth, value_depth, terms_depth}
use Rattle.rule_terms.specs.TermView.{terms_of}
use Rattle.rule_terms.specs.Parts.{terms_parts}
use Rattle.escape_universe.specs.Sought.{meets}
use Rattle.escape_universe.proofs.walk.+seek.Given as goal

abbrev pub decreases-in_store : goal.decreases-in_store
decreases-in_store l = 2 * store_depth l.s.now

abbrev pub decreases-in_value : goal.decreases-in_value
decreases-in_value l = 2 * value_depth l.v.now

abbrev pub decreases-in_values : goal.decreases-in_values
decreases-in_values l = 2 * terms_depth (terms_of l.items.now) + 1

abbrev pub invariant-in_values-loop-v : goal.invariant-in_values-loop-v
invariant-in_values-loop-v l = list_any (meets l.w) (terms_parts (terms_of (drop l.v-index l.items))) ≡ list_any (meets l.w) (terms_parts (terms_of l.items))
