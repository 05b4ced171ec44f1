use Rattle.pec_text.proofs.Longest.{takes_longest}
use Rattle.pec_text.proofs.lexer.takes_longest.Goals as goal

pub returns : goal.returns
returns c = takes_longest
