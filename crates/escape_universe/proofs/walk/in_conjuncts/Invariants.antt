-- What is left of the conjuncts has such a part exactly where all have.
use Rattle.std.proofs.Common.{◌≡◌, drop}
use Rattle.std.specs.List.{list_any}
use Rattle.rule_terms.specs.Parts.{conjuncts_parts}
use Rattle.escape_universe.specs.Sought.{meets}
use Rattle.escape_universe.proofs.walk.in_conjuncts.Given as goal

abbrev pub invariant-loop-c : goal.invariant-loop-c
invariant-loop-c l = list_any (meets l.w) (conjuncts_parts (drop l.c-index l.items)) ≡ list_any (meets l.w) (conjuncts_parts l.items)
