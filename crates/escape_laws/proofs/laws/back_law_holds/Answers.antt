-- By the read of each clause.
use Rattle.escape_laws.proofs.BackKept.{back_law_holds}
use Rattle.escape_laws.proofs.laws.back_law_holds.Goals as goal

pub returns : goal.returns
returns c = back_law_holds
