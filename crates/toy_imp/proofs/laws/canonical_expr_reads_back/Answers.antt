use Rattle.toy_imp.proofs.CanonicalValues.{expr-value}
use Rattle.toy_imp.proofs.laws.canonical_expr_reads_back.Goals as goal

pub returns : goal.returns
returns c = expr-value
