use Rattle.term_universe.proofs.Closed.{subterms_are_there}
use Rattle.term_universe.proofs.laws.subterms_are_there.Goals as goal

pub returns : goal.returns
returns c = subterms_are_there
