use Rattle.std.proofs.Common.{◌≡◌, ℤ, List, get_or, refl, sym, ap, ◌∙◌}
use Rattle.std.specs.declared.vec.Vec.{Vec}
use Rattle.std.specs.declared.alloc.Global.{Global}
use Rattle.linear_rows.specs.Stage.{sums_with}
use Rattle.linear_rows.specs.Lines.{items_of, lines_of}
use Rattle.linear_rows.proofs.Gathered.{item_small, walk_goes_on, walk_stops, sums_each}
use Rattle.linear_rows.proofs.Recorders.{all_sums, all_same}
use Rattle.linear_rows.proofs.gathering.take_cancelled.Goals as goal

pub take_sums-requires-clause-first : goal.take_sums-requires-clause-first
take_sums-requires-clause-first c =
    let d = c.index-lines-i.result in
    let line_is : c.deref.result.now ≡ (get_or c.args.lines.now c.loop-i.i d).items = c.deref.ensures.value ∙ ap (λ (v : Vec ℤ Global). v.items) c.index-lines-i.is in
    rw line_is (item_small c.args.lines.now c.loop-i.i d c.loop-i-test.true c.requires.lines)

pub returns-then-is_some-clause-gathered : goal.returns-then-is_some-clause-gathered
returns-then-is_some-clause-gathered c =
    let d = c.index-lines-i.result in
    let line_is : c.deref.result.now ≡ (get_or c.args.lines.now c.loop-i.i d).items = c.deref.ensures.value ∙ ap (λ (v : Vec ℤ Global). v.items) c.index-lines-i.is in
    walk_stops (λ (xs : List (Vec ℤ Global)). sums_with (items_of c.args.lines.now) (items_of xs)) (sums_each (items_of c.args.lines.now)) c.args.lines.now c.loop-i.i d (lines_of c.args.next.now) (lines_of c.loop-i.next) (lines_of c.take_sums.new.next) c.in_ok-what.what
    c.loop-i-test.true (sym c.is_some.ensures ∙ c.if-is_some.true) c.loop-i.invariant.rest (rw line_is at c.in_ok-what.ensures.gathered)

pub loop-i-preserved : goal.loop-i-preserved
loop-i-preserved c =
    let d = c.index-lines-i.result in
    let line_is : c.deref.result.now ≡ (get_or c.args.lines.now c.loop-i.i d).items = c.deref.ensures.value ∙ ap (λ (v : Vec ℤ Global). v.items) c.index-lines-i.is in
    record {
      rest = walk_goes_on (λ (xs : List (Vec ℤ Global)). sums_with (items_of c.args.lines.now) (items_of xs)) (sums_each (items_of c.args.lines.now)) c.args.lines.now c.loop-i.i d _ (lines_of c.loop-i.next) (lines_of c.take_sums.new.next) c.in_ok-what.what
          c.loop-i-test.true (sym c.is_some.ensures ∙ c.if-is_some.false) c.loop-i.invariant.rest (rw line_is at c.in_ok-what.ensures.gathered);
      small = c.in_ok-what.ensures.small;
      recorded = all_sums c.args.numbers.now c.args.lines.now c.loop-i.i d c.number_at-number.result c.deref.result.now c.args.history.now c.loop-i.history c.take_sums.new.history c.args.next.now c.loop-i.next c.take_sums.new.next
          c.loop-i-test.true c.number_at-number.ensures line_is c.loop-i.invariant.recorded c.in_ok-what.ensures.recorded;
    }

pub returns-then-is_some-clause-recorded : goal.returns-then-is_some-clause-recorded
returns-then-is_some-clause-recorded c =
    let d = c.index-lines-i.result in
    let line_is : c.deref.result.now ≡ (get_or c.args.lines.now c.loop-i.i d).items = c.deref.ensures.value ∙ ap (λ (v : Vec ℤ Global). v.items) c.index-lines-i.is in
    all_sums c.args.numbers.now c.args.lines.now c.loop-i.i d c.number_at-number.result c.deref.result.now c.args.history.now c.loop-i.history c.take_sums.new.history c.args.next.now c.loop-i.next c.take_sums.new.next
    c.loop-i-test.true c.number_at-number.ensures line_is c.loop-i.invariant.recorded c.in_ok-what.ensures.recorded

pub loop-i-init : goal.loop-i-init
loop-i-init c = record { rest = refl; small = c.requires.small; recorded = all_same c.args.numbers.now (items_of c.args.lines.now) c.args.history.now c.args.next.now }
