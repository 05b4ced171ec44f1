use Rattle.iteration_order.proofs.Exchanges.{exchange}
use Rattle.iteration_order.proofs.laws.exchange.Goals as goal

pub returns : goal.returns
returns g c = exchange _
