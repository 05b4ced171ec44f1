use Rattle.pec_text.proofs.Readings.{one_reading}
use Rattle.pec_text.proofs.lexer.one_reading.Goals as goal

pub returns : goal.returns
returns c = one_reading
