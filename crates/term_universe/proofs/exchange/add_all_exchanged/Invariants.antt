use Rattle.std.proofs.Common.{◌≡◌, drop}
use Rattle.std.specs.List.{flat_map}
use Rattle.rule_terms.specs.Order.{store_same}
use Rattle.rule_terms.specs.Added.{added_all}
use Rattle.term_universe.specs.Universe.{exchanged}
use Rattle.term_universe.proofs.exchange.add_all_exchanged.Given as goal

abbrev pub invariant-loop-term : goal.invariant-loop-term
invariant-loop-term l = added_all store_same l.stores (flat_map (exchanged l.conditions) (drop l.term-index l.terms)) ≡ added_all store_same l.fn.stores (flat_map (exchanged l.conditions) l.terms)
