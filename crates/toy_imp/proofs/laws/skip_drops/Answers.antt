use Rattle.toy_imp.proofs.Alikes.{skip_drops}
use Rattle.toy_imp.proofs.laws.skip_drops.Goals as goal

pub returns : goal.returns
returns c = skip_drops
