use Rattle.side_conditions.proofs.Framing.{others_kept}
use Rattle.side_conditions.proofs.laws.others_kept.Goals as goal

pub returns : goal.returns
returns c = others_kept
