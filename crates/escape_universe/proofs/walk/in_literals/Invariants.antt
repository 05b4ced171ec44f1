-- What is left of the literals has such a part exactly where all have.
use Rattle.std.proofs.Common.{◌≡◌, drop}
use Rattle.std.specs.List.{list_any}
use Rattle.rule_terms.specs.Parts.{literals_parts}
use Rattle.escape_universe.specs.Sought.{meets}
use Rattle.escape_universe.proofs.walk.in_literals.Given as goal

abbrev pub invariant-loop-l : goal.invariant-loop-l
invariant-loop-l l = list_any (meets l.w) (literals_parts (drop l.l-index l.items)) ≡ list_any (meets l.w) (literals_parts l.items)
