-- By the marks of the two terms.
use Rattle.open_checker.proofs.EscapeLaws.{equal_stores_end_alike}
use Rattle.open_checker.proofs.laws.equal_stores_end_alike.Goals as goal

pub returns : goal.returns
returns c = equal_stores_end_alike
