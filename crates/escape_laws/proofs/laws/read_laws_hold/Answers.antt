-- By the clauses at each term.
use Rattle.escape_laws.proofs.KeptLaws.{read_laws_hold}
use Rattle.escape_laws.proofs.laws.read_laws_hold.Goals as goal

pub returns : goal.returns
returns c = read_laws_hold
