use Rattle.toy_imp.proofs.Numbers.{sum_times}
use Rattle.toy_imp.proofs.laws.sum_times.Goals as goal

pub returns : goal.returns
returns c = sum_times
