-- Each clause of a law has a form.
use Rattle.law_clauses.proofs.ClausesHaveForms.{clauses_have_forms}
use Rattle.law_clauses.proofs.laws.clauses_have_forms.Goals as goal

pub returns : goal.returns
returns c = clauses_have_forms
