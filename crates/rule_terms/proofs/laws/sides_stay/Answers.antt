use Rattle.rule_terms.proofs.Substitutions.{sides_stay}
use Rattle.rule_terms.proofs.laws.sides_stay.Goals as goal

pub returns : goal.returns
returns c = sides_stay
