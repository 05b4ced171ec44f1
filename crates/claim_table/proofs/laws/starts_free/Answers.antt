use Rattle.claim_table.proofs.NewTable.{starts-free}
use Rattle.claim_table.proofs.laws.starts_free.Goals as goal

pub returns : goal.returns
returns c = starts-free
