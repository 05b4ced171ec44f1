use Rattle.std.proofs.Common.{[], ◌∷◌, map, refl, sym, ◌∙◌, subst}
use Rattle.linear_rows.specs.declared.row.Row.{Row}
use Rattle.linear_rows.specs.Stage.{line_of}
use Rattle.linear_rows.specs.Lines.{lines_of, Gathers}
use Rattle.linear_rows.proofs.Gathered.{walk_goes_on, rows_each}
use Rattle.linear_rows.proofs.Recorders.{rows_next}
use Rattle.linear_rows.proofs.gathering.take_rows.Goals as goal

pub returns-then-is_some-clause-recorded : goal.returns-then-is_some-clause-recorded
returns-then-is_some-clause-recorded c =
    rows_next c.args.rows.now c.loop-i.i c.index-rows-i.result c.loop-i.i c.args.history.now c.loop-i.history c.take_row.new.history c.args.stage.now c.loop-i.stage c.take_row.new.stage
    c.loop-i-test.true c.index-rows-i.is refl c.loop-i.invariant.recorded c.in_ok-what.ensures.recorded

pub loop-i-preserved : goal.loop-i-preserved
loop-i-preserved c =
    let row = c.index-rows-i.result in
    record {
      rest = walk_goes_on (map line_of) rows_each c.args.rows.now c.loop-i.i row _ (lines_of c.loop-i.stage) (lines_of c.take_row.new.stage) c.in_ok-what.what
          c.loop-i-test.true (sym c.is_some.ensures ∙ c.if-is_some.false) c.loop-i.invariant.rest
          (subst (λ (x : Row). Gathers (lines_of c.loop-i.stage) (line_of x ∷ []) (lines_of c.take_row.new.stage) c.in_ok-what.what) c.index-rows-i.is c.in_ok-what.ensures.gathered);
      small = c.in_ok-what.ensures.small;
      recorded = rows_next c.args.rows.now c.loop-i.i row c.loop-i.i c.args.history.now c.loop-i.history c.take_row.new.history c.args.stage.now c.loop-i.stage c.take_row.new.stage
          c.loop-i-test.true c.index-rows-i.is refl c.loop-i.invariant.recorded c.in_ok-what.ensures.recorded;
    }
