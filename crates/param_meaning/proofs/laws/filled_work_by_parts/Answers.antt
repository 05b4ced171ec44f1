use Rattle.param_meaning.proofs.Lists.{filled_work_by_parts}
use Rattle.param_meaning.proofs.laws.filled_work_by_parts.Goals as goal

pub returns : goal.returns
returns c = filled_work_by_parts
