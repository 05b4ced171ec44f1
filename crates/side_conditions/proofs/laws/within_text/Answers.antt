use Rattle.side_conditions.proofs.Within.{within_text}
use Rattle.side_conditions.proofs.laws.within_text.Goals as goal

pub returns : goal.returns
returns c = within_text
