use Rattle.term_meaning.specs.Meaning.{Reached}
use Rattle.path_pairs.proofs.RulePaths.{rule_path_law}
use Rattle.path_pairs.proofs.laws.rule_path_law.Goals as goal

pub returns : goal.returns
returns c = λ f i T l r faithful rule cuts side p well simulates lt fits covers. rule_path_law (Reached f) i T l r faithful rule cuts side p well simulates lt fits covers
