use Rattle.std.proofs.Common.{◌≡◌, ◌++◌, map, drop}
use Rattle.rule_terms.specs.Parts.{values_among}
use Rattle.term_universe.specs.Walked.{part_of}
use Rattle.term_universe.proofs.gather.values_among.Given as goal

abbrev pub invariant-loop-part : goal.invariant-loop-part
invariant-loop-part l = l.values ++ values_among (map part_of (drop l.part-index l.parts)) ≡ values_among (map part_of l.parts)
