use Rattle.std.proofs.Common.{◌≡◌, ◌++◌, map, drop}
use Rattle.rule_terms.specs.Parts.{literals_parts}
use Rattle.term_universe.specs.Walked.{part_of}
use Rattle.term_universe.proofs.walk.put_literals.Given as goal

abbrev pub invariant-loop-l : goal.invariant-loop-l
invariant-loop-l l = map part_of l.parts.items ++ literals_parts (drop l.l-index l.items) ≡ map part_of l.fn.parts.items ++ literals_parts l.items
