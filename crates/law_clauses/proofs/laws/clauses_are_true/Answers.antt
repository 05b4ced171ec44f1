-- Each clause of a law has a true literal.
use Rattle.law_clauses.proofs.Clauses.{clauses_are_true}
use Rattle.law_clauses.proofs.laws.clauses_are_true.Goals as goal

pub returns : goal.returns
returns c = clauses_are_true
