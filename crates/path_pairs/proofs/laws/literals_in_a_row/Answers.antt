use Rattle.path_pairs.proofs.RulePaths.{literals_in_a_row}
use Rattle.path_pairs.proofs.laws.literals_in_a_row.Goals as goal

pub returns : goal.returns
returns c = λ xs ys. literals_in_a_row xs ys
