use Rattle.refutation_text.proofs.WrittenBack.{literal_reads_back}
use Rattle.refutation_text.proofs.laws.literal_reads_back.Goals as goal

pub returns : goal.returns
returns c = literal_reads_back
