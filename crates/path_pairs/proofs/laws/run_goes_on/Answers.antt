use Rattle.path_pairs.proofs.Comings.{run_goes_on}
use Rattle.path_pairs.proofs.laws.run_goes_on.Goals as goal

pub returns : goal.returns
returns c = λ first second s m came. run_goes_on first second s m came
