use Rattle.std.proofs.Common.{◌≡◌, ◌++◌, map, drop}
use Rattle.rule_terms.specs.Parts.{conjuncts_parts}
use Rattle.term_universe.specs.Walked.{part_of}
use Rattle.term_universe.proofs.walk.put_conjuncts.Given as goal

abbrev pub invariant-loop-c : goal.invariant-loop-c
invariant-loop-c l = map part_of l.parts.items ++ conjuncts_parts (drop l.c-index l.items) ≡ map part_of l.fn.parts.items ++ conjuncts_parts l.items
