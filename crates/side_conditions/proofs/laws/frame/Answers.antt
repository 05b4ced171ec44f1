use Rattle.side_conditions.proofs.Framing.{frame}
use Rattle.side_conditions.proofs.laws.frame.Goals as goal

pub returns : goal.returns
returns c = frame
