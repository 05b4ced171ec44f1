use Rattle.std.proofs.Common.{◌≡◌, ℤ, get_or, sym, ap, ◌∙◌}
use Rattle.std.specs.declared.vec.Vec.{Vec}
use Rattle.std.specs.declared.alloc.Global.{Global}
use Rattle.linear_rows.specs.Fractions.{is_less}
use Rattle.linear_rows.specs.Stage.{is_upper}
use Rattle.linear_rows.proofs.Gathered.{item_small}
use Rattle.linear_rows.proofs.Bounding.{best_goes_on}
use Rattle.linear_rows.proofs.value.least_upper.Goals as goal

pub with_upper-requires-clause-small : goal.with_upper-requires-clause-small
with_upper-requires-clause-small c =
    let d = c.line-item.result in
    let line_is : c.deref.result.now ≡ (get_or c.args.lines.now c.loop-line.line-index d).items = c.deref.ensures.value ∙ ap (λ (v : Vec ℤ Global). v.items) c.line-item.is in
    rw line_is (item_small c.args.lines.now c.loop-line.line-index d c.loop-line-test.true c.requires.small)

pub loop-line-preserved : goal.loop-line-preserved
loop-line-preserved c =
    let d = c.line-item.result in
    let line_is : c.deref.result.now ≡ (get_or c.args.lines.now c.loop-line.line-index d).items = c.deref.ensures.value ∙ ap (λ (v : Vec ℤ Global). v.items) c.line-item.is in
    record {
      rest = best_goes_on (λ x y. is_less y x) c.args.xs.now is_upper _ c.loop-line.best c.in_ok-best.best c.args.lines.now c.loop-line.line-index d c.loop-line-test.true
          c.loop-line.invariant.rest (rw line_is at (sym c.with_upper.ensures.value ∙ c.in_ok-best.was));
      proper = c.in_ok-best.ensures.proper;
    }
