use Rattle.path_pairs.proofs.RulePaths.{literals_cover_paths}
use Rattle.path_pairs.proofs.laws.literals_cover_paths.Goals as goal

pub returns : goal.returns
returns c = λ i T l r all covers. literals_cover_paths i T l r all covers
