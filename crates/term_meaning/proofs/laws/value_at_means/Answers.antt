use Rattle.term_meaning.proofs.Valuing.{value_at_means}
use Rattle.term_meaning.proofs.laws.value_at_means.Goals as goal

pub returns : goal.returns
returns c = λ i T l r e u s names is_s. value_at_means i T l r u s is_s e names
