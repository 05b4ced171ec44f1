use Rattle.iteration_order.proofs.InOrder.{tuples_ascend}
use Rattle.iteration_order.proofs.laws.tuples_ascend.Goals as goal

pub returns : goal.returns
returns c = tuples_ascend
