use Rattle.path_pairs.proofs.RulePaths.{one_place}
use Rattle.path_pairs.proofs.laws.one_has_place.Goals as goal

pub returns : goal.returns
returns c = λ i T l r all path only. one_place i T l r all path only
