use Rattle.rule_terms.proofs.Substitutions.{replaced_twice}
use Rattle.rule_terms.proofs.laws.replaced_twice.Goals as goal

pub returns : goal.returns
returns c = replaced_twice
