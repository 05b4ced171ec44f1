use Rattle.iteration_order.proofs.InOrder.{tuples_are_the_turns}
use Rattle.iteration_order.proofs.laws.tuples_are_the_turns.Goals as goal

pub returns : goal.returns
returns c = tuples_are_the_turns
