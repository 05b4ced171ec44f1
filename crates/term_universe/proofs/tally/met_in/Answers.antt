use Rattle.std.proofs.Common.{sym, ◌∙◌}
use Rattle.rule_terms.specs.Parts.{obligation_parts}
use Rattle.rule_terms.specs.Order.{part_cmp}
use Rattle.term_universe.specs.Tallies.{is_store, is_reading}
use Rattle.term_universe.specs.Walked.{part_of, mark_of}
use Rattle.rule_terms.proofs.Orders.{part_total, part_equal}
use Rattle.term_universe.proofs.Nexts.{closer}
use Rattle.term_universe.proofs.Counting.{counted_none, counted_next, counted_all, stores_done, readings_done}
use Rattle.term_universe.proofs.tally.met_in.Goals as goal

pub loop-part-init : goal.loop-part-init
loop-part-init c = record { stores = counted_none is_store (obligation_parts c.args.ob.now); readings = counted_none is_reading (obligation_parts c.args.ob.now) }

pub returns-then-is_value-clause-stores : goal.returns-then-is_value-clause-stores
returns-then-is_value-clause-stores c =
    stores_done (mark_of c.loop-part.last) (obligation_parts c.args.ob.now) (part_of c.in-Some.part) c.loop-part.so_far.stores
    (sym c.is_value.ensures ∙ c.if-is_value.true) (sym c.in-Some.ensures) c.loop-part.invariant.stores

pub returns-then-is_value-clause-readings : goal.returns-then-is_value-clause-readings
returns-then-is_value-clause-readings c =
    readings_done (mark_of c.loop-part.last) (obligation_parts c.args.ob.now) (part_of c.in-Some.part) c.loop-part.so_far.readings
    (sym c.is_value.ensures ∙ c.if-is_value.true) (sym c.in-Some.ensures) c.loop-part.invariant.readings

pub loop-part-smaller : goal.loop-part-smaller
loop-part-smaller c = closer part_cmp part_total part_equal (mark_of c.loop-part.last) (obligation_parts c.args.ob.now) (part_of c.in-Some.part) (sym c.in-Some.ensures)

pub loop-part-preserved : goal.loop-part-preserved
loop-part-preserved c = record {
  stores = counted_next is_store (mark_of c.loop-part.last) (obligation_parts c.args.ob.now) (part_of c.in-Some.part) c.loop-part.so_far.stores c.one_more-so_far.result.stores
      (sym c.in-Some.ensures) c.loop-part.invariant.stores c.one_more-so_far.ensures.stores;
  readings = counted_next is_reading (mark_of c.loop-part.last) (obligation_parts c.args.ob.now) (part_of c.in-Some.part) c.loop-part.so_far.readings c.one_more-so_far.result.readings
      (sym c.in-Some.ensures) c.loop-part.invariant.readings c.one_more-so_far.ensures.readings;
}

pub returns-clause-stores : goal.returns-clause-stores
returns-clause-stores c =
    counted_all is_store (mark_of c.loop-part.last) (obligation_parts c.args.ob.now) c.loop-part.so_far.stores (sym c.in_default.ensures) c.loop-part.invariant.stores

pub returns-clause-readings : goal.returns-clause-readings
returns-clause-readings c =
    counted_all is_reading (mark_of c.loop-part.last) (obligation_parts c.args.ob.now) c.loop-part.so_far.readings (sym c.in_default.ensures) c.loop-part.invariant.readings
