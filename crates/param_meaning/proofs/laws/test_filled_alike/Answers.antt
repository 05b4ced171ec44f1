use Rattle.param_meaning.proofs.Agreeing.{test_filled_alike}
use Rattle.param_meaning.proofs.laws.test_filled_alike.Goals as goal

pub returns : goal.returns
returns c = test_filled_alike
