use Rattle.std.proofs.Common.{◌≡◌, ◌++◌, map, drop}
use Rattle.rule_terms.specs.TermView.{terms_of}
use Rattle.rule_terms.specs.Parts.{terms_parts}
use Rattle.term_universe.specs.Walked.{part_of}
use Rattle.term_universe.proofs.walk.+walk.Given as goal

abbrev pub invariant-put_values-loop-v : goal.invariant-put_values-loop-v
invariant-put_values-loop-v l = map part_of l.parts.items ++ terms_parts (terms_of (drop l.v-index l.items)) ≡ map part_of l.fn.parts.items ++ terms_parts (terms_of l.items)
