use Rattle.term_meaning.proofs.InUse.{kinds_fit}
use Rattle.term_meaning.proofs.laws.kinds_fit.Goals as goal

pub returns : goal.returns
returns c = kinds_fit
