use Rattle.std.proofs.Common.{◌≡◌, drop}
use Rattle.std.specs.List.{list_any}
use Rattle.rule_terms.specs.Order.{store_same}
use Rattle.term_universe.proofs.gather.has_store.Given as goal

abbrev pub invariant-loop-t : goal.invariant-loop-t
invariant-loop-t l = list_any (store_same l.s) (drop l.t-index l.stores) ≡ list_any (store_same l.s) l.stores
