use Rattle.rule_terms.proofs.Substitutions.{depth_replaced}
use Rattle.rule_terms.proofs.laws.depth_replaced.Goals as goal

pub returns : goal.returns
returns c = depth_replaced
