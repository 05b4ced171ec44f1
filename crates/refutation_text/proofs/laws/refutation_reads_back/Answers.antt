use Rattle.refutation_text.proofs.WrittenBack.{refutation_reads_back}
use Rattle.refutation_text.proofs.laws.refutation_reads_back.Goals as goal

pub returns : goal.returns
returns c = refutation_reads_back
