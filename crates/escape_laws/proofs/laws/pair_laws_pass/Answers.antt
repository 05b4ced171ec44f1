-- By the clauses at each two terms.
use Rattle.escape_laws.proofs.KeptPairs.{pair_laws_pass}
use Rattle.escape_laws.proofs.laws.pair_laws_pass.Goals as goal

pub returns : goal.returns
returns c = pair_laws_pass
