use Rattle.path_pairs.specs.Stretches.{rest_of}
use Rattle.path_pairs.proofs.FromNext.{stop_none, stop_some}
use Rattle.path_pairs.proofs.walking.rest_stop.Goals as goal

pub returns-in-None : goal.returns-in-None
returns-in-None c = stop_none c.args.cuts.now c.args.exit (rest_of c.args.rest.now) c.in-None.ensures

pub returns-in-Some : goal.returns-in-Some
returns-in-Some c = stop_some c.args.cuts.now c.args.exit _ _ _ _ _ _ _ _ c.in-Some.ensures c.stmt_stop.ensures
