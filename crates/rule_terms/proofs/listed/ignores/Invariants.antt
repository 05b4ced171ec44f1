use Rattle.std.proofs.Common.{◌≡◌, drop}
use Rattle.std.specs.List.{list_any}
use Rattle.rule_terms.specs.Listed.{is_ignores}
use Rattle.rule_terms.proofs.listed.ignores.Given as goal

abbrev pub invariant-loop-condition : goal.invariant-loop-condition
invariant-loop-condition l = list_any (is_ignores l.k l.x) (drop l.condition-index l.conditions) ≡ list_any (is_ignores l.k l.x) l.conditions
