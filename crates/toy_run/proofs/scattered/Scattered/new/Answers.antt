use Rattle.toy_run.proofs.Variables.{nothing_held}
use Rattle.toy_run.proofs.scattered.Scattered.new.Goals as goal

pub returns : goal.returns
returns c = nothing_held _ _ c.new.ensures.empty c.new-2.ensures.empty
