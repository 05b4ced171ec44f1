use Rattle.toy_imp.proofs.Alikes.{later_replaced}
use Rattle.toy_imp.proofs.laws.later_replaced.Goals as goal

pub returns : goal.returns
returns c = later_replaced
