use Rattle.std.proofs.Common.{◌≡◌, drop}
use Rattle.std.specs.List.{list_any}
use Rattle.rule_terms.specs.Order.{value_same}
use Rattle.term_universe.proofs.gather.has_value.Given as goal

abbrev pub invariant-loop-w : goal.invariant-loop-w
invariant-loop-w l = list_any (value_same l.v) (drop l.w-index l.values) ≡ list_any (value_same l.v) l.values
