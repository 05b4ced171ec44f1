use Rattle.path_pairs.proofs.RulePaths.{covers_each_list}
use Rattle.path_pairs.proofs.laws.covers_each_list.Goals as goal

pub returns : goal.returns
returns c = λ i T l r xs ys covers. covers_each_list i T l r xs ys covers
