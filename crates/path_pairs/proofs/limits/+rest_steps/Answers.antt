use Rattle.path_pairs.proofs.FromNext.{steps_next}
use Rattle.path_pairs.proofs.limits.+rest_steps.Goals as goal

pub returns-in-Some : goal.returns-in-Some
returns-in-Some t c =
    steps_next c.args.cuts.now c.args.rest.now c.in-Some.first.now c.in-Some.behind.now c.rest_steps-after.result c.steps_along.result c.in-Some.ensures.cases.0 c.rest_steps-after.ensures
    c.steps_along.ensures
