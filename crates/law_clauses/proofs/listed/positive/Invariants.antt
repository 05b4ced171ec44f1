-- What is left of the list has a condition that is looked for exactly where the whole list has.
use Rattle.std.proofs.Common.{◌≡◌, drop}
use Rattle.std.specs.List.{list_any}
use Rattle.law_clauses.specs.Listed.{is_positive}
use Rattle.law_clauses.proofs.listed.positive.Given as goal

abbrev pub invariant-loop-condition : goal.invariant-loop-condition
invariant-loop-condition l = list_any (is_positive l.e) (drop l.condition-index l.conditions) ≡ list_any (is_positive l.e) l.conditions
