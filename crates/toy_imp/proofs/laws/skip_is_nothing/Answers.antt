use Rattle.toy_imp.proofs.Alikes.{skip_is_nothing}
use Rattle.toy_imp.proofs.laws.skip_is_nothing.Goals as goal

pub returns : goal.returns
returns c = skip_is_nothing
