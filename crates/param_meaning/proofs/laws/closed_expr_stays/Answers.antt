use Rattle.param_meaning.proofs.Staying.{expr_stays}
use Rattle.param_meaning.proofs.laws.closed_expr_stays.Goals as goal

pub returns : goal.returns
returns c = expr_stays
