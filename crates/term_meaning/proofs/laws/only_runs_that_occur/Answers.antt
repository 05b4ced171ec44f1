use Rattle.term_meaning.proofs.Growth.{store_kept, conjunct_kept, covers_conjunct_kept}
use Rattle.term_meaning.proofs.laws.only_runs_that_occur.Goals as goal

pub returns : goal.returns
returns c = λ i T U g l r. record { store = store_kept i T U g l r; conjunct = conjunct_kept i T U g l r; covers = covers_conjunct_kept i T U g l r }
