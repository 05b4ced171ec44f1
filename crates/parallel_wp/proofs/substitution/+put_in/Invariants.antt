use Rattle.std.proofs.Common.{◌≡◌, ◌+◌, ◌*◌, take, map}
use Rattle.rule_terms.specs.Term.{store_depth, value_depth, terms_depth}
use Rattle.rule_terms.specs.TermView.{terms_of}
use Rattle.rule_terms.specs.Substitute.{value_term_at}
use Rattle.parallel_wp.proofs.substitution.+put_in.Given as goal

abbrev pub decreases-store_at : goal.decreases-store_at
decreases-store_at c = 2 * store_depth c.s.now

abbrev pub decreases-value_at : goal.decreases-value_at
decreases-value_at c = 2 * value_depth c.v.now

abbrev pub decreases-values_at : goal.decreases-values_at
decreases-values_at c = 2 * terms_depth (terms_of c.items.now) + 1

abbrev pub invariant-values_at-loop-v : goal.invariant-values_at-loop-v
invariant-values_at-loop-v c = c.all ≡ map (value_term_at c.l c.r) (take c.v-index c.items)
