use Rattle.toy_imp.proofs.Alikes.{parts_replaced}
use Rattle.toy_imp.proofs.laws.parts_replaced.Goals as goal

pub returns : goal.returns
returns c = parts_replaced
