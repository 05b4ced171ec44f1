use Rattle.rule_terms.proofs.Substitutions.{nothing_else}
use Rattle.rule_terms.proofs.laws.nothing_else.Goals as goal

pub returns : goal.returns
returns c = nothing_else
