use Rattle.toy_imp.proofs.Alikes.{quiet_is_same}
use Rattle.toy_imp.proofs.laws.quiet_is_same.Goals as goal

pub returns : goal.returns
returns c = quiet_is_same
