use Rattle.param_meaning.proofs.Agreeing.{filled_alike}
use Rattle.param_meaning.proofs.laws.filled_alike.Goals as goal

pub returns : goal.returns
returns c = filled_alike
