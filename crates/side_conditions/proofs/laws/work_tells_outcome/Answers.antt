use Rattle.side_conditions.proofs.Framing.{work_tells_outcome}
use Rattle.side_conditions.proofs.laws.work_tells_outcome.Goals as goal

pub returns : goal.returns
returns c = work_tells_outcome
