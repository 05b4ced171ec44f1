use Rattle.param_meaning.proofs.Staying.{test_stays}
use Rattle.param_meaning.proofs.laws.closed_test_stays.Goals as goal

pub returns : goal.returns
returns c = test_stays
