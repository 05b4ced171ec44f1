use Rattle.term_meaning.proofs.InUse.{run_goes_on}
use Rattle.term_meaning.specs.Meaning.{Reached}
use Rattle.term_meaning.proofs.laws.run_goes_on.Goals as goal

pub returns : goal.returns
returns c = λ f i T l r faithful k u covers s is_s stops goes. run_goes_on (Reached f) i T l r faithful k u covers s is_s stops goes
