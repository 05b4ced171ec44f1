use Rattle.term_universe.proofs.Closed.{order_is_free}
use Rattle.term_universe.proofs.laws.order_is_free.Goals as goal

pub returns : goal.returns
returns c = order_is_free
