-- No later mark is of the term of an earlier one.
use Rattle.open_checker.proofs.DifferentTerms.{stores_differ}
use Rattle.open_checker.proofs.laws.stores_differ.Goals as goal

pub returns : goal.returns
returns c = stores_differ
