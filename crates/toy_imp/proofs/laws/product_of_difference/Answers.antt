use Rattle.toy_imp.proofs.Numbers.{product_of_difference}
use Rattle.toy_imp.proofs.laws.product_of_difference.Goals as goal

pub returns : goal.returns
returns c = product_of_difference
