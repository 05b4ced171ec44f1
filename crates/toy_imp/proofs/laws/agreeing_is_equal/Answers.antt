use Rattle.toy_imp.proofs.Stores.{agreeing_is_equal}
use Rattle.toy_imp.proofs.laws.agreeing_is_equal.Goals as goal

pub returns : goal.returns
returns c = agreeing_is_equal
