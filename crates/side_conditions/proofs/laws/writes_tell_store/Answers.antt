use Rattle.side_conditions.proofs.Framing.{writes_tell_store}
use Rattle.side_conditions.proofs.laws.writes_tell_store.Goals as goal

pub returns : goal.returns
returns c = writes_tell_store
