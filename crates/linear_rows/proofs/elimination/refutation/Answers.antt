use Rattle.std.proofs.Common.{◌+◌, ◌-◌, refl, ◌∙◌}
use Rattle.linear_rows.proofs.Refuting.{shows_by}
use Rattle.linear_rows.proofs.elimination.refutation.Goals as goal

pub returns : goal.returns
returns c = shows_by c.args.history c.args.number (c.args.number + 1 - c.args.history.given) c.from_vec.result (c.from_vec.ensures ∙ c.steps_to.ensures) refl
