-- Where each obligation of a relation holds, the rule is valid.
use Rattle.rule_simulation.proofs.Validity.{shown_is_valid}
use Rattle.rule_simulation.proofs.laws.shown_is_valid.Goals as goal

pub returns : goal.returns
returns c = shown_is_valid
