use Rattle.side_conditions.proofs.Apart.{assertless_is_quiet}
use Rattle.side_conditions.proofs.laws.assertless_is_quiet.Goals as goal

pub returns : goal.returns
returns c = assertless_is_quiet
