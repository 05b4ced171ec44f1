use Rattle.std.proofs.Common.{ap}
use Rattle.std.proofs.lemmas.Result.{on_ok_weaker}
use Rattle.linear_rows.proofs.Recorders.{step_lowered}
use Rattle.linear_rows.proofs.stage.Stage.take.Goals as goal

pub returns-clause-recorded : goal.returns-clause-recorded
returns-clause-recorded c =
    on_ok_weaker c.take_lowest.result
    (λ records one. step_lowered c.args.step _ c.args.line.items c.lower_line-cut.new.line.items c.args.history.now c.take_lowest.new.history c.args.self.now c.take_lowest.new.self c.requires.wide one
    (ap (λ cut. record c.args.step { cut = cut }) c.lower_line-cut.ensures.cut) c.lower_line-cut.ensures.lowest records)
    c.take_lowest.ensures.recorded
