use Rattle.std.proofs.Common.{◌≡◌, ◌+◌, ◌*◌, ◌<◌, ◌^◌, drop}
use Rattle.rule_terms.specs.Term.{store_depth, value_depth, terms_depth}
use Rattle.rule_terms.specs.TermView.{terms_of}
use Rattle.rule_terms.specs.Counts.{saturated}
use Rattle.rule_terms.specs.SubstituteLaws.{terms_weight}
use Rattle.parallel_wp.proofs.weight.+weight.Given as goal

abbrev pub decreases-store_weight : goal.decreases-store_weight
decreases-store_weight c = 2 * store_depth c.s.now

abbrev pub decreases-value_weight : goal.decreases-value_weight
decreases-value_weight c = 2 * value_depth c.v.now

abbrev pub decreases-values_weight : goal.decreases-values_weight
decreases-values_weight c = 2 * terms_depth (terms_of c.items.now) + 1

abbrev pub invariant-values_weight-loop-v : goal.invariant-values_weight-loop-v
invariant-values_weight-loop-v c = record {
  few : c.all < 2 ^ 64;
  nodes : saturated (c.all + terms_weight c.a c.b (terms_of (drop c.v-index c.items))) ≡ saturated (terms_weight c.a c.b (terms_of c.items));
}
