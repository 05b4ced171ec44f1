use Rattle.toy_run.proofs.Determined.{one_ran}
use Rattle.toy_run.proofs.laws.one_ran.Goals as goal

pub returns : goal.returns
returns c = one_ran
