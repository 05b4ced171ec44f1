use Rattle.std.proofs.Common.{[], sym, ◌∙◌}
use Rattle.linear_rows.specs.Stage.{kept_lines, cancelled_lines}
use Rattle.linear_rows.specs.Lines.{lines_of, Gathers}
use Rattle.linear_rows.proofs.Gathered.{gathers_after, gathers_stopped, gathers_whole, if_ok_then}
use Rattle.std.proofs.lemmas.Result.{on_ok_weaker}
use Rattle.linear_rows.proofs.Recorders.{all_then}
use Rattle.linear_rows.proofs.elimination.take_next.Goals as goal

pub returns-then-is_some-clause-gathered : goal.returns-then-is_some-clause-gathered
returns-then-is_some-clause-gathered c =
    let stage = lines_of c.args.stage.now in
    gathers_stopped [] (lines_of c.take_kept.new.next) (kept_lines stage) (cancelled_lines stage) c.in_ok-what.what
    (sym c.is_some.ensures ∙ c.if-is_some.true) (rw (c.requires.empty, c.as_slice-lines.ensures.keys) at c.in_ok-what.ensures.gathered)

pub returns-clause-gathered : goal.returns-clause-gathered
returns-clause-gathered c =
    let stage = lines_of c.args.stage.now in
    let kept = lines_of c.take_kept.new.next in
    let new = lines_of c.take_cancelled.new.next in
    if_ok_then c.take_cancelled.result (Gathers kept (cancelled_lines stage) new) _ (rw c.as_slice-lines.ensures.keys at c.take_cancelled.ensures.gathered)
    (λ what is. gathers_after [] kept new (kept_lines stage) (cancelled_lines stage) what
    (gathers_whole [] kept (kept_lines stage) c.in_ok-what.what (sym c.is_some.ensures ∙ c.if-is_some.false)
    (rw (c.requires.empty, c.as_slice-lines.ensures.keys) at c.in_ok-what.ensures.gathered)) is)

pub returns-clause-recorded : goal.returns-clause-recorded
returns-clause-recorded c =
    let stage = c.args.stage.now in
    let before = rw (c.deref.ensures.value, c.as_slice-lines.ensures.keys) at c.in_ok-what.ensures.recorded in
    let after = rw (c.deref-2.ensures.value, c.as_slice-lines.ensures.keys) at c.take_cancelled.ensures.recorded in
    on_ok_weaker c.take_cancelled.result
    (λ records. all_then stage.numbers.items (lines_of stage) c.args.history.now c.take_kept.new.history c.take_cancelled.new.history c.args.next.now c.take_kept.new.next c.take_cancelled.new.next before records)
    after
