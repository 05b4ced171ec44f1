use Rattle.param_meaning.proofs.Staying.{program_stays}
use Rattle.param_meaning.proofs.laws.program_stays.Goals as goal

pub returns : goal.returns
returns c = program_stays
