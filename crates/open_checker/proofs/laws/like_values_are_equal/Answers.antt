-- By the marks of the two terms.
use Rattle.open_checker.proofs.EscapeLaws.{like_values_are_equal}
use Rattle.open_checker.proofs.laws.like_values_are_equal.Goals as goal

pub returns : goal.returns
returns c = like_values_are_equal
