use Rattle.path_pairs.proofs.FromNext.{branches_none, branches_are}
use Rattle.path_pairs.specs.Stretches.{rest_of}
use Rattle.path_pairs.proofs.limits.walks_onward.Goals as goal

pub returns-in-None : goal.returns-in-None
returns-in-None c = branches_none c.args.cuts.now (rest_of c.args.rest.now) c.in-None.ensures

pub returns-in-Some : goal.returns-in-Some
returns-in-Some c = branches_are c.args.cuts.now _ _ _ _ _ _ _ _ _ _ _ c.in-Some.ensures c.rest_walks-after.ensures c.walks_along-behind.ensures c.stmt_walks-here.ensures c.stmt_branches.ensures
