use Rattle.toy_imp.proofs.Alikes.{front_replaced}
use Rattle.toy_imp.proofs.laws.front_replaced.Goals as goal

pub returns : goal.returns
returns c = front_replaced
