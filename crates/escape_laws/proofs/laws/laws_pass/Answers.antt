-- By the clauses at each term.
use Rattle.escape_laws.proofs.KeptLaws.{laws_pass}
use Rattle.escape_laws.proofs.laws.laws_pass.Goals as goal

pub returns : goal.returns
returns c = laws_pass
