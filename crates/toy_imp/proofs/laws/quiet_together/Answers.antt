use Rattle.toy_imp.proofs.Alikes.{quiet_together}
use Rattle.toy_imp.proofs.laws.quiet_together.Goals as goal

pub returns : goal.returns
returns c = quiet_together
