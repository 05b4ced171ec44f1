-- By the clauses at each term.
use Rattle.escape_laws.proofs.KeptLaws.{end_laws_hold}
use Rattle.escape_laws.proofs.laws.end_laws_hold.Goals as goal

pub returns : goal.returns
returns c = end_laws_hold
