use Rattle.std.proofs.Common.{sym, subst}
use Rattle.linear_rows.specs.declared.elimination.Gathered.{Gathered}
use Rattle.linear_rows.specs.Recorded.{RecordsFirst}
use Rattle.linear_rows.proofs.Recorders.{first_recorded}
use Rattle.linear_rows.proofs.elimination.first_stage.Goals as goal

pub returns-clause-recorded : goal.returns-clause-recorded
returns-clause-recorded c =
    subst (λ (g : Gathered). RecordsFirst c.args.rows.now c.args.history.now c.take_rows.new.history g) (sym c.gathered_by.ensures)
    (first_recorded c.args.rows.now c.args.history.now c.take_rows.new.history c.new-stage.result c.take_rows.new.stage c.in_ok-what.what c.new-stage.ensures.numbers c.new-stage.ensures.lines
    c.in_ok-what.ensures.recorded)
