use Rattle.toy_imp.proofs.Runs.{open_never_ends}
use Rattle.toy_imp.proofs.laws.open_never_ends.Goals as goal

pub returns : goal.returns
returns c = open_never_ends
