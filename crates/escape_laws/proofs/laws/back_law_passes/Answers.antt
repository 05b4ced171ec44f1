-- By the read of each clause.
use Rattle.escape_laws.proofs.BackKept.{back_law_passes}
use Rattle.escape_laws.proofs.laws.back_law_passes.Goals as goal

pub returns : goal.returns
returns c = back_law_passes
