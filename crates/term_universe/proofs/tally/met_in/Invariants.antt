use Rattle.std.proofs.Common.{◌≡◌, length}
use Rattle.std.specs.List.{filter}
use Rattle.rule_terms.specs.Parts.{obligation_parts}
use Rattle.rule_terms.specs.Order.{part_cmp}
use Rattle.term_universe.specs.Least.{is_above}
use Rattle.term_universe.specs.Tallies.{is_store, is_reading}
use Rattle.rule_terms.specs.Counts.{saturated}
use Rattle.term_universe.specs.Walked.{mark_of}
use Rattle.term_universe.proofs.Counting.{counted}
use Rattle.term_universe.proofs.tally.met_in.Given as goal

abbrev pub invariant-loop-part : goal.invariant-loop-part
invariant-loop-part l = record {
  stores : l.so_far.stores ≡ saturated (counted is_store (mark_of l.last) (obligation_parts l.ob));
  readings : l.so_far.readings ≡ saturated (counted is_reading (mark_of l.last) (obligation_parts l.ob));
}

abbrev pub decreases-loop-part : goal.decreases-loop-part
decreases-loop-part l = length (filter (is_above part_cmp (mark_of l.last)) (obligation_parts l.ob))
