-- By the two stores of each clause.
use Rattle.escape_laws.proofs.WrittenKept.{written_law_holds}
use Rattle.escape_laws.proofs.laws.written_law_holds.Goals as goal

pub returns : goal.returns
returns c = written_law_holds
