use Rattle.param_meaning.proofs.Closing.{filled_is_program}
use Rattle.param_meaning.proofs.laws.filled_is_program.Goals as goal

pub returns : goal.returns
returns c = filled_is_program
