use Rattle.std.proofs.Common.{length}
use Rattle.path_pairs.proofs.limits.+rest_steps.Given as goal

abbrev pub decreases-rest_steps : goal.decreases-rest_steps
decreases-rest_steps l = length l.rest.now
