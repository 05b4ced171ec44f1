use Rattle.std.proofs.Common.{◌≡◌, ◌+◌, ◌*◌, ◌<◌, ◌^◌, max, drop}
use Rattle.rule_terms.specs.Term.{store_depth, value_depth, terms_depth}
use Rattle.rule_terms.specs.TermView.{terms_of}
use Rattle.rule_terms.specs.Counts.{saturated, terms_nodes}
use Rattle.rule_terms.proofs.+size.Given as goal

abbrev pub decreases-term::StoreTerm::size : goal.decreases-term::StoreTerm::size
decreases-term::StoreTerm::size l = 2 * store_depth l.self.now

abbrev pub decreases-term::ValueTerm::size : goal.decreases-term::ValueTerm::size
decreases-term::ValueTerm::size l = 2 * value_depth l.self.now

abbrev pub decreases-size::values_size : goal.decreases-size::values_size
decreases-size::values_size l = 2 * terms_depth (terms_of l.items.now) + 1

abbrev pub invariant-size::values_size-loop-v : goal.invariant-size::values_size-loop-v
invariant-size::values_size-loop-v l = record {
  few : l.all.nodes < 2 ^ 64;
  low : l.all.depth < 2 ^ 64;
  nodes : saturated (l.all.nodes + terms_nodes (terms_of (drop l.v-index l.items))) ≡ saturated (terms_nodes (terms_of l.items));
  depth : saturated (max l.all.depth (terms_depth (terms_of (drop l.v-index l.items)))) ≡ saturated (terms_depth (terms_of l.items));
}
