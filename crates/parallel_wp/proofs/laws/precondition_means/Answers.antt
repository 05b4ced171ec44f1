use Rattle.parallel_wp.proofs.Preconditions.{precondition_means}
use Rattle.parallel_wp.proofs.laws.precondition_means.Goals as goal

pub returns : goal.returns
returns c = precondition_means
