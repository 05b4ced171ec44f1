use Rattle.term_meaning.proofs.Substituting.{store_put, conjunct_put, covers_conjunct_put}
use Rattle.term_meaning.proofs.laws.substitution_means.Goals as goal

pub returns : goal.returns
returns c = λ i T l r a b m n at_l at_r. record { store = store_put i T l r m n a b at_l at_r; conjunct = conjunct_put i T l r m n a b at_l at_r; covers = covers_conjunct_put i T l r m n a b at_l at_r }
