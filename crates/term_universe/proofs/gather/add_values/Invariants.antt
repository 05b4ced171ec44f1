use Rattle.std.proofs.Common.{◌≡◌, drop}
use Rattle.rule_terms.specs.Order.{value_same}
use Rattle.rule_terms.specs.Added.{added_all}
use Rattle.term_universe.proofs.gather.add_values.Given as goal

abbrev pub invariant-loop-v : goal.invariant-loop-v
invariant-loop-v l = added_all value_same l.values (drop l.v-index l.more) ≡ added_all value_same l.fn.values l.more
