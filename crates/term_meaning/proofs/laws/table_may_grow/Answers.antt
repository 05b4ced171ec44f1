use Rattle.term_meaning.specs.Meaning.{Reached}
use Rattle.term_meaning.proofs.Assuming.{extend_literals}
use Rattle.term_meaning.proofs.laws.table_may_grow.Goals as goal

pub returns : goal.returns
returns c = λ f i l r xs T faithful ret. extend_literals (Reached f) i l r xs T faithful ret
