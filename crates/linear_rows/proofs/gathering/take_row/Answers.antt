use Rattle.std.proofs.Common.{◌≡◌, arith, ap, ◌∙◌}
use Rattle.std.proofs.lemmas.Result.{on_ok_weaker}
use Rattle.linear_rows.specs.Stage.{line_of}
use Rattle.linear_rows.specs.Recorded.{same_row}
use Rattle.linear_rows.proofs.Recorders.{line_by_step}
use Rattle.linear_rows.proofs.gathering.take_row.Goals as goal

pub returns-clause-recorded : goal.returns-clause-recorded
returns-clause-recorded c =
    let number_is : c.in-Ok.number ≡ c.args.i = omega (arith, c.in-Ok.ensures) in
    on_ok_weaker c.take.result
    (λ records. line_by_step c.args.i c.same_row.result (line_of c.args.row.now) c.in_ok-line.line.items c.args.history.now c.take.new.history c.args.stage.now c.take.new.self
    c.requires.row (c.same_row.ensures ∙ ap same_row number_is) c.in_ok-line.ensures (records (ap (λ s. s.cut) c.same_row.ensures)))
    c.take.ensures.recorded
