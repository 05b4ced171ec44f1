use Rattle.swap_conditions.proofs.Implying.{swap_suffices}
use Rattle.swap_conditions.proofs.laws.swap_suffices.Goals as goal

pub returns : goal.returns
returns c = swap_suffices
