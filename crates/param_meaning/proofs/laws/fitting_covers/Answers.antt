use Rattle.param_meaning.proofs.Closing.{fitting_covers}
use Rattle.param_meaning.proofs.laws.fitting_covers.Goals as goal

pub returns : goal.returns
returns c = fitting_covers
