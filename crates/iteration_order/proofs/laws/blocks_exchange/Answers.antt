use Rattle.iteration_order.proofs.Places.{blocks_exchange}
use Rattle.iteration_order.proofs.laws.blocks_exchange.Goals as goal

pub returns : goal.returns
returns c = blocks_exchange
