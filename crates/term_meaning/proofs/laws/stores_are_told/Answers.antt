use Rattle.term_meaning.proofs.SameStores.{same_equal, same_from}
use Rattle.term_meaning.proofs.laws.stores_are_told.Goals as goal

pub returns : goal.returns
returns c = λ s t. (same_equal s t, same_from s t)
