use Rattle.param_meaning.proofs.Closing.{filled_test_is_closed}
use Rattle.param_meaning.proofs.laws.filled_test_is_closed.Goals as goal

pub returns : goal.returns
returns c = filled_test_is_closed
