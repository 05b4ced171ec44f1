use Rattle.rule_terms.proofs.Substitutions.{nodes_replaced}
use Rattle.rule_terms.proofs.laws.nodes_replaced.Goals as goal

pub returns : goal.returns
returns c = nodes_replaced
