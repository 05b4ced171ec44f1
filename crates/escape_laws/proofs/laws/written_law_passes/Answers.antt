-- By the two stores of each clause.
use Rattle.escape_laws.proofs.WrittenKept.{written_law_passes}
use Rattle.escape_laws.proofs.laws.written_law_passes.Goals as goal

pub returns : goal.returns
returns c = written_law_passes
