use Rattle.pec_top.proofs.OneOutput.{one_output}
use Rattle.pec_top.proofs.output.one_output.Goals as goal

pub returns : goal.returns
returns c = one_output
