use Rattle.word_text.proofs.ReadBack.{one_reading}
use Rattle.word_text.proofs.laws.one_reading.Goals as goal

pub returns : goal.returns
returns c = one_reading
