use Rattle.std.proofs.Common.{◌≡◌, drop}
use Rattle.rule_terms.specs.Parts.{literals_parts}
use Rattle.rule_terms.specs.Order.{part_cmp}
use Rattle.term_universe.specs.Least.{least_above}
use Rattle.term_universe.specs.Walked.{mark_of}
use Rattle.term_universe.proofs.part.least_in_literals.Given as goal

abbrev pub invariant-loop-l : goal.invariant-loop-l
invariant-loop-l l =
    least_above part_cmp (mark_of l.low) (mark_of l.least) (literals_parts (drop l.l-index l.items))
    ≡ least_above part_cmp (mark_of l.low) (mark_of l.fn.best) (literals_parts l.items)
