use Rattle.toy_imp.proofs.Alikes.{empty_is_nothing}
use Rattle.toy_imp.proofs.laws.empty_is_nothing.Goals as goal

pub returns : goal.returns
returns c = empty_is_nothing
