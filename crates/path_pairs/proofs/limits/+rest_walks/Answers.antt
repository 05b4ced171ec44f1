use Rattle.path_pairs.proofs.FromNext.{walks_next}
use Rattle.path_pairs.proofs.limits.+rest_walks.Goals as goal

pub returns-in-Some : goal.returns-in-Some
returns-in-Some t c =
    walks_next c.args.cuts.now c.args.rest.now c.in-Some.first.now c.in-Some.behind.now c.rest_walks-after.result c.walks_along.result c.in-Some.ensures.cases.0 c.rest_walks-after.ensures
    c.walks_along.ensures
