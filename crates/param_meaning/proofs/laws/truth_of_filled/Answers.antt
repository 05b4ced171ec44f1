use Rattle.param_meaning.proofs.Meanings.{truth_of_filled}
use Rattle.param_meaning.proofs.laws.truth_of_filled.Goals as goal

pub returns : goal.returns
returns c = truth_of_filled
