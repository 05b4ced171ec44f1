use Rattle.pec_top.proofs.OneInput.{one_input}
use Rattle.pec_top.proofs.input.one_input.Goals as goal

pub returns : goal.returns
returns c = one_input
