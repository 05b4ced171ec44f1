use Rattle.param_meaning.proofs.Meanings.{value_of_filled}
use Rattle.param_meaning.proofs.laws.value_of_filled.Goals as goal

pub returns : goal.returns
returns c = value_of_filled
