use Rattle.toy_imp.proofs.Fills.{fill-append}
use Rattle.param_meaning.proofs.laws.filled_by_parts.Goals as goal

pub returns : goal.returns
returns c = fill-append
