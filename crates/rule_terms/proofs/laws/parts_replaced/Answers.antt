use Rattle.rule_terms.proofs.Substitutions.{parts_replaced}
use Rattle.rule_terms.proofs.laws.parts_replaced.Goals as goal

pub returns : goal.returns
returns c = parts_replaced
