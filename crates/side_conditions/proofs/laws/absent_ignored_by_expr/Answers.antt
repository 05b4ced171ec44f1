use Rattle.side_conditions.proofs.Ignoring.{absent_ignored_by_expr}
use Rattle.side_conditions.proofs.laws.absent_ignored_by_expr.Goals as goal

pub returns : goal.returns
returns c = absent_ignored_by_expr
