use Rattle.iteration_order.proofs.Unrolled.{loop_is_its_turns}
use Rattle.iteration_order.proofs.laws.loop_is_its_turns.Goals as goal

pub returns : goal.returns
returns c = loop_is_its_turns
