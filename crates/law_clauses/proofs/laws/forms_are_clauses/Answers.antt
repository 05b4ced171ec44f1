-- Each form is a clause of its law.
use Rattle.law_clauses.proofs.FormsAreClauses.{forms_are_clauses}
use Rattle.law_clauses.proofs.laws.forms_are_clauses.Goals as goal

pub returns : goal.returns
returns c = forms_are_clauses
