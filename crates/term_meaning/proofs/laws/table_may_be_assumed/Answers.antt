use Rattle.term_meaning.specs.Meaning.{Reached}
use Rattle.term_meaning.proofs.Assuming.{with_table}
use Rattle.term_meaning.proofs.laws.table_may_be_assumed.Goals as goal

pub returns : goal.returns
returns c = λ f i l r xs ret. with_table (Reached f) i l r xs ret
