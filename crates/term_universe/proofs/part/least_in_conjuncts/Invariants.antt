use Rattle.std.proofs.Common.{◌≡◌, drop}
use Rattle.rule_terms.specs.Parts.{conjuncts_parts}
use Rattle.rule_terms.specs.Order.{part_cmp}
use Rattle.term_universe.specs.Least.{least_above}
use Rattle.term_universe.specs.Walked.{mark_of}
use Rattle.term_universe.proofs.part.least_in_conjuncts.Given as goal

abbrev pub invariant-loop-c : goal.invariant-loop-c
invariant-loop-c l =
    least_above part_cmp (mark_of l.low) (mark_of l.least) (conjuncts_parts (drop l.c-index l.items))
    ≡ least_above part_cmp (mark_of l.low) (mark_of l.fn.best) (conjuncts_parts l.items)
