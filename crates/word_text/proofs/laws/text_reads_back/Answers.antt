use Rattle.word_text.proofs.ReadBack.{text_reads_back}
use Rattle.word_text.proofs.laws.text_reads_back.Goals as goal

pub returns : goal.returns
returns c = text_reads_back
