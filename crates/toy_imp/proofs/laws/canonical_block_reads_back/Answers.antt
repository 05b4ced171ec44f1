use Rattle.toy_imp.proofs.CanonicalValues.{block-value}
use Rattle.toy_imp.proofs.laws.canonical_block_reads_back.Goals as goal

pub returns : goal.returns
returns c = block-value
