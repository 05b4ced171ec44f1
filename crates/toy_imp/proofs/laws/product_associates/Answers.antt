use Rattle.toy_imp.proofs.Numbers.{product_associates}
use Rattle.toy_imp.proofs.laws.product_associates.Goals as goal

pub returns : goal.returns
returns c = product_associates
