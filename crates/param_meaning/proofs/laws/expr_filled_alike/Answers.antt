use Rattle.param_meaning.proofs.Agreeing.{expr_filled_alike}
use Rattle.param_meaning.proofs.laws.expr_filled_alike.Goals as goal

pub returns : goal.returns
returns c = expr_filled_alike
