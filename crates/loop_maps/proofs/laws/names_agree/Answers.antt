use Rattle.loop_maps.proofs.Agreeing.{names_agree}
use Rattle.loop_maps.proofs.laws.names_agree.Goals as goal

pub returns : goal.returns
returns c = names_agree
