use Rattle.std.proofs.Common.{◌≡◌, ℤ, get_or, refl, sym, ap, ◌∙◌}
use Rattle.std.specs.declared.vec.Vec.{Vec}
use Rattle.std.specs.declared.alloc.Global.{Global}
use Rattle.linear_rows.specs.Stage.{cancelled, is_upper}
use Rattle.linear_rows.specs.Lines.{items_of, lines_of}
use Rattle.linear_rows.proofs.Gathered.{item_small, walk_goes_on, walk_stops, selected, selected_each}
use Rattle.linear_rows.proofs.Recorders.{sums_next, sums_same}
use Rattle.linear_rows.proofs.gathering.take_all_sums.Goals as goal

pub take_sum-requires-clause-second : goal.take_sum-requires-clause-second
take_sum-requires-clause-second c =
    let d = c.index-lines-i.result in
    let line_is : c.deref.result.now ≡ (get_or c.args.lines.now c.loop-i.i d).items = c.deref.ensures.value ∙ ap (λ (v : Vec ℤ Global). v.items) c.index-lines-i.is in
    rw line_is (item_small c.args.lines.now c.loop-i.i d c.loop-i-test.true c.requires.lines)

pub returns-then-is_some-clause-gathered : goal.returns-then-is_some-clause-gathered
returns-then-is_some-clause-gathered c =
    let d = c.index-lines-i.result in
    let line_is : c.deref.result.now ≡ (get_or c.args.lines.now c.loop-i.i d).items = c.deref.ensures.value ∙ ap (λ (v : Vec ℤ Global). v.items) c.index-lines-i.is in
    walk_stops (selected (cancelled c.args.p.now) is_upper) (selected_each (cancelled c.args.p.now) is_upper) c.args.lines.now c.loop-i.i d (lines_of c.args.next.now) (lines_of c.loop-i.next) (lines_of c.take_sum.new.next) c.in_ok-what.what
    c.loop-i-test.true (sym c.is_some.ensures ∙ c.if-is_some.true) c.loop-i.invariant.rest (rw line_is at c.in_ok-what.ensures.gathered)

pub loop-i-preserved : goal.loop-i-preserved
loop-i-preserved c =
    let d = c.index-lines-i.result in
    let line_is : c.deref.result.now ≡ (get_or c.args.lines.now c.loop-i.i d).items = c.deref.ensures.value ∙ ap (λ (v : Vec ℤ Global). v.items) c.index-lines-i.is in
    record {
      rest = walk_goes_on (selected (cancelled c.args.p.now) is_upper) (selected_each (cancelled c.args.p.now) is_upper) c.args.lines.now c.loop-i.i d _ (lines_of c.loop-i.next) (lines_of c.take_sum.new.next) c.in_ok-what.what
          c.loop-i-test.true (sym c.is_some.ensures ∙ c.if-is_some.false) c.loop-i.invariant.rest (rw line_is at c.in_ok-what.ensures.gathered);
      small = c.in_ok-what.ensures.small;
      recorded = sums_next c.args.number c.args.p.now c.args.numbers.now c.args.lines.now c.loop-i.i d c.number_at-other.result c.deref.result.now c.args.history.now c.loop-i.history c.take_sum.new.history c.args.next.now c.loop-i.next c.take_sum.new.next
          c.loop-i-test.true c.number_at-other.ensures line_is c.loop-i.invariant.recorded c.in_ok-what.ensures.recorded;
    }

pub returns-then-is_some-clause-recorded : goal.returns-then-is_some-clause-recorded
returns-then-is_some-clause-recorded c =
    let d = c.index-lines-i.result in
    let line_is : c.deref.result.now ≡ (get_or c.args.lines.now c.loop-i.i d).items = c.deref.ensures.value ∙ ap (λ (v : Vec ℤ Global). v.items) c.index-lines-i.is in
    sums_next c.args.number c.args.p.now c.args.numbers.now c.args.lines.now c.loop-i.i d c.number_at-other.result c.deref.result.now c.args.history.now c.loop-i.history c.take_sum.new.history c.args.next.now c.loop-i.next c.take_sum.new.next
    c.loop-i-test.true c.number_at-other.ensures line_is c.loop-i.invariant.recorded c.in_ok-what.ensures.recorded

pub loop-i-init : goal.loop-i-init
loop-i-init c = record { rest = refl; small = c.requires.small; recorded = sums_same c.args.number c.args.p.now c.args.numbers.now (items_of c.args.lines.now) c.args.history.now c.args.next.now }
