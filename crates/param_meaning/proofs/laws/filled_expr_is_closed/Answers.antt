use Rattle.param_meaning.proofs.Closing.{filled_expr_is_closed}
use Rattle.param_meaning.proofs.laws.filled_expr_is_closed.Goals as goal

pub returns : goal.returns
returns c = filled_expr_is_closed
