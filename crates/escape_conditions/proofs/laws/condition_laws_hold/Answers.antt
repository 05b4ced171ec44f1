-- By the clauses at each term and condition.
use Rattle.escape_conditions.proofs.ConditionsKept.{condition_laws_hold}
use Rattle.escape_conditions.proofs.laws.condition_laws_hold.Goals as goal

pub returns : goal.returns
returns c = condition_laws_hold
