use Rattle.toy_imp.proofs.Runs.{work_splits}
use Rattle.toy_imp.proofs.laws.work_splits.Goals as goal

pub returns : goal.returns
returns c = work_splits
