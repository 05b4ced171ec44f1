use Rattle.path_pairs.proofs.OnePaths.{path_law}
use Rattle.term_meaning.specs.Meaning.{Reached}
use Rattle.path_pairs.proofs.laws.path_law.Goals as goal

pub returns : goal.returns
returns c = λ f i T l r faithful rule cuts side p names plain lt short covers. path_law (Reached f) i T l r faithful rule cuts side p names plain lt short covers
