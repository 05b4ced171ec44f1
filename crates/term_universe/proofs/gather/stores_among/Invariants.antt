use Rattle.std.proofs.Common.{◌≡◌, ◌++◌, map, drop}
use Rattle.rule_terms.specs.Parts.{stores_among}
use Rattle.term_universe.specs.Walked.{part_of}
use Rattle.term_universe.proofs.gather.stores_among.Given as goal

abbrev pub invariant-loop-part : goal.invariant-loop-part
invariant-loop-part l = l.stores ++ stores_among (map part_of (drop l.part-index l.parts)) ≡ stores_among (map part_of l.parts)
