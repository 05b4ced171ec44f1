use Rattle.term_meaning.proofs.InUse.{gives_goal}
use Rattle.term_meaning.proofs.laws.obligation_gives_goal.Goals as goal

pub returns : goal.returns
returns c = gives_goal
