use Rattle.toy_imp.proofs.CanonicalValues.{test-value}
use Rattle.toy_imp.proofs.laws.canonical_test_reads_back.Goals as goal

pub returns : goal.returns
returns c = test-value
