use Rattle.path_pairs.proofs.OnePaths.{run_ends_at_exit}
use Rattle.path_pairs.proofs.laws.run_ends_at_exit.Goals as goal

pub returns : goal.returns
returns c = λ i side plain work s m came. run_ends_at_exit i side plain work s m came
