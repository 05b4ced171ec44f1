use Rattle.std.proofs.Common.{length}
use Rattle.path_pairs.proofs.limits.+rest_walks.Given as goal

abbrev pub decreases-rest_walks : goal.decreases-rest_walks
decreases-rest_walks l = length l.rest.now
