-- By the read of each clause.
use Rattle.escape_laws.proofs.IndexKept.{index_law_passes}
use Rattle.escape_laws.proofs.laws.index_law_passes.Goals as goal

pub returns : goal.returns
returns c = index_law_passes
