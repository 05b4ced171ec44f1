use Rattle.swap_conditions.proofs.Meeting.{holding_suffices}
use Rattle.swap_conditions.proofs.laws.holding_suffices.Goals as goal

pub returns : goal.returns
returns c = holding_suffices
