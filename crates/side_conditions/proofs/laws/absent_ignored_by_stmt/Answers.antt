use Rattle.side_conditions.proofs.Ignoring.{absent_ignored_by_stmt}
use Rattle.side_conditions.proofs.laws.absent_ignored_by_stmt.Goals as goal

pub returns : goal.returns
returns c = absent_ignored_by_stmt
