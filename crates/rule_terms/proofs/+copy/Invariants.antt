use Rattle.std.proofs.Common.{◌≡◌, ◌+◌, ◌*◌, take}
use Rattle.rule_terms.specs.Term.{store_depth, value_depth, terms_depth}
use Rattle.rule_terms.specs.TermView.{terms_of}
use Rattle.rule_terms.proofs.+copy.Given as goal

abbrev pub decreases-term::StoreTerm::copy : goal.decreases-term::StoreTerm::copy
decreases-term::StoreTerm::copy l = 2 * store_depth l.self.now

abbrev pub decreases-term::ValueTerm::copy : goal.decreases-term::ValueTerm::copy
decreases-term::ValueTerm::copy l = 2 * value_depth l.self.now

abbrev pub decreases-copy::copy_values : goal.decreases-copy::copy_values
decreases-copy::copy_values l = 2 * terms_depth (terms_of l.items.now) + 1

abbrev pub invariant-copy::copy_values-loop-v : goal.invariant-copy::copy_values-loop-v
invariant-copy::copy_values-loop-v l = l.all ≡ take l.v-index l.items
