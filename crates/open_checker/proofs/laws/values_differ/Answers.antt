-- No later mark is of the term of an earlier one.
use Rattle.open_checker.proofs.DifferentTerms.{values_differ}
use Rattle.open_checker.proofs.laws.values_differ.Goals as goal

pub returns : goal.returns
returns c = values_differ
