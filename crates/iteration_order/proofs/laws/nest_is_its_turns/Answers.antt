use Rattle.iteration_order.proofs.LoopNests.{nest_is_its_turns}
use Rattle.iteration_order.proofs.laws.nest_is_its_turns.Goals as goal

pub returns : goal.returns
returns c = nest_is_its_turns
