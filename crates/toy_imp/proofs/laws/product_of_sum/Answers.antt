use Rattle.toy_imp.proofs.Numbers.{product_of_sum}
use Rattle.toy_imp.proofs.laws.product_of_sum.Goals as goal

pub returns : goal.returns
returns c = product_of_sum
