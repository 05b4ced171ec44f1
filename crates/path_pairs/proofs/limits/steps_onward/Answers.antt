use Rattle.path_pairs.proofs.FromNext.{onward_none, onward_is}
use Rattle.path_pairs.specs.Stretches.{rest_of}
use Rattle.path_pairs.proofs.limits.steps_onward.Goals as goal

pub returns-in-None : goal.returns-in-None
returns-in-None c = onward_none c.args.cuts.now (rest_of c.args.rest.now) c.in-None.ensures

pub returns-in-Some : goal.returns-in-Some
returns-in-Some c = onward_is c.args.cuts.now _ _ _ _ _ _ _ _ _ _ _ c.in-Some.ensures c.rest_steps-after.ensures c.steps_along-behind.ensures c.stmt_steps-here.ensures c.stmt_onward.ensures
