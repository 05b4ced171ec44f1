use Rattle.parallel_wp.proofs.Together.{obligation_nodes_are}
use Rattle.parallel_wp.proofs.laws.obligation_nodes.Goals as goal

pub returns : goal.returns
returns c = obligation_nodes_are
