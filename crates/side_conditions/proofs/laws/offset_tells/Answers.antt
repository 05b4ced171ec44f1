use Rattle.side_conditions.proofs.Distance.{offset_tells}
use Rattle.side_conditions.proofs.laws.offset_tells.Goals as goal

pub returns : goal.returns
returns c = offset_tells
