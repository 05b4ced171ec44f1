use Rattle.std.proofs.Common.{◌≡◌, drop}
use Rattle.std.specs.List.{list_any}
use Rattle.rule_terms.specs.Listed.{is_commutes}
use Rattle.rule_terms.proofs.listed.commute.Given as goal

abbrev pub invariant-loop-condition : goal.invariant-loop-condition
invariant-loop-condition l = list_any (is_commutes l.j l.k) (drop l.condition-index l.conditions) ≡ list_any (is_commutes l.j l.k) l.conditions
