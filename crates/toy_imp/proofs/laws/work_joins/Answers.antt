use Rattle.toy_imp.proofs.Runs.{work_joins}
use Rattle.toy_imp.proofs.laws.work_joins.Goals as goal

pub returns : goal.returns
returns c = work_joins
