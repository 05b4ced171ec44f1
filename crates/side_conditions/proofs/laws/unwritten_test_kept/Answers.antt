use Rattle.side_conditions.proofs.Keeping.{unwritten_test_kept}
use Rattle.side_conditions.proofs.laws.unwritten_test_kept.Goals as goal

pub returns : goal.returns
returns c = unwritten_test_kept
