use Rattle.toy_imp.proofs.Numbers.{product_commutes}
use Rattle.toy_imp.proofs.laws.product_commutes.Goals as goal

pub returns : goal.returns
returns c = product_commutes
