use Rattle.side_conditions.proofs.Keeping.{unwritten_name_kept}
use Rattle.side_conditions.proofs.laws.unwritten_name_kept.Goals as goal

pub returns : goal.returns
returns c = unwritten_name_kept
