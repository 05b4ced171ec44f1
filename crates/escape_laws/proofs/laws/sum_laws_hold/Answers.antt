-- By the clauses at each term.
use Rattle.escape_laws.proofs.KeptLaws.{sum_laws_hold}
use Rattle.escape_laws.proofs.laws.sum_laws_hold.Goals as goal

pub returns : goal.returns
returns c = sum_laws_hold
