use Rattle.side_conditions.proofs.Keeping.{unwritten_expr_kept}
use Rattle.side_conditions.proofs.laws.unwritten_expr_kept.Goals as goal

pub returns : goal.returns
returns c = unwritten_expr_kept
