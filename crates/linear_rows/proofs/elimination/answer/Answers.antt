use Rattle.std.proofs.Common.{sym, subst}
use Rattle.linear_rows.specs.declared.elimination.Found.{Found}
use Rattle.linear_rows.specs.declared.answer.Rows.TheVariants as rows
use Rattle.linear_rows.specs.Recorded.{Answers}
use Rattle.linear_rows.proofs.Recorders.{limit_answer, point_answer, never_answer}
use Rattle.linear_rows.proofs.elimination.answer.Goals as goal

pub returns-in-Limit : goal.returns-in-Limit
returns-in-Limit c = subst (λ (f : Found). Answers c.args.history f (rows.Limit c.in-Limit.mark)) (sym c.in-Limit.is) (limit_answer c.args.history c.in-Limit.mark)

pub returns-in-Point : goal.returns-in-Point
returns-in-Point c =
    subst (λ (f : Found). Answers c.args.history f (rows.Point c.from_vec.result)) (sym c.in-Point.is) (point_answer c.args.history c.in-Point.xs c.from_vec.result c.from_vec.ensures)

pub returns-in-Never : goal.returns-in-Never
returns-in-Never c =
    subst (λ (f : Found). Answers c.args.history f (rows.Empty c.refutation.result)) (sym c.in-Never.is)
    (never_answer c.args.history c.in-Never.number c.refutation.result c.refutation.ensures)
