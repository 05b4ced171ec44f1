use Rattle.term_meaning.proofs.InUse.{known_run}
use Rattle.term_meaning.specs.Meaning.{Reached}
use Rattle.term_meaning.proofs.laws.known_run_is_told.Goals as goal

pub returns : goal.returns
returns c = λ f i T l r faithful k u covers s t is_s ends ret. known_run (Reached f) i T l r faithful k u covers s is_s t ends ret
