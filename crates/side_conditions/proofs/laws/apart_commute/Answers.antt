use Rattle.side_conditions.proofs.Apart.{apart_commute}
use Rattle.side_conditions.proofs.laws.apart_commute.Goals as goal

pub returns : goal.returns
returns c = apart_commute
