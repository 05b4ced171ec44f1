use Rattle.param_meaning.proofs.Closing.{fitting_fills_program}
use Rattle.param_meaning.proofs.laws.fitting_fills_program.Goals as goal

pub returns : goal.returns
returns c = fitting_fills_program
