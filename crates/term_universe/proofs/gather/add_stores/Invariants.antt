use Rattle.std.proofs.Common.{◌≡◌, drop}
use Rattle.rule_terms.specs.Order.{store_same}
use Rattle.rule_terms.specs.Added.{added_all}
use Rattle.term_universe.proofs.gather.add_stores.Given as goal

abbrev pub invariant-loop-s : goal.invariant-loop-s
invariant-loop-s l = added_all store_same l.stores (drop l.s-index l.more) ≡ added_all store_same l.fn.stores l.more
