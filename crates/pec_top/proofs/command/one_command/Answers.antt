use Rattle.pec_top.proofs.Words.{one_command}
use Rattle.pec_top.proofs.command.one_command.Goals as goal

pub returns : goal.returns
returns c = one_command
