use Rattle.term_text.proofs.ReadTerms.{term_reads_back}
use Rattle.term_text.proofs.laws.term_reads_back.Goals as goal

pub returns : goal.returns
returns c = term_reads_back
