use Rattle.path_pairs.proofs.RulePaths.{rule_sides}
use Rattle.path_pairs.proofs.laws.rule_sides.Goals as goal

pub returns : goal.returns
returns c = λ rule side well simulates. rule_sides rule side well simulates
