use Rattle.toy_imp.proofs.Runs.{one_outcome}
use Rattle.toy_imp.proofs.laws.one_outcome.Goals as goal

pub returns : goal.returns
returns c = one_outcome
