use Rattle.toy_imp.proofs.Numbers.{difference_times}
use Rattle.toy_imp.proofs.laws.difference_times.Goals as goal

pub returns : goal.returns
returns c = difference_times
