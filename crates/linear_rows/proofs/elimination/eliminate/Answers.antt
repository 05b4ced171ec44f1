use Rattle.linear_rows.proofs.Recorders.{whole_answer}
use Rattle.linear_rows.proofs.elimination.eliminate.Goals as goal

pub returns-in_ok-found-in-Whole : goal.returns-in_ok-found-in-Whole
returns-in_ok-found-in-Whole c =
    whole_answer c.args.n c.args.rows.now c.new-history.result c.first_stage.new.history c.outcome.new.history c.in-Whole.stage c.in_ok-found-in-Whole.found c.answer.result c.requires.rows
    c.new-history.ensures.given c.new-history.ensures.steps (rw c.in-Whole.is at c.in_ok-what.ensures.recorded) (rw c.in-Whole.is at c.in_ok-what.ensures.first)
    c.in_ok-found-in-Whole.ensures.recorded c.in_ok-found-in-Whole.ensures.found c.answer.ensures
