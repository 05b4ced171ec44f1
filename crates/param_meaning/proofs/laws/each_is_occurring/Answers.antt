use Rattle.param_meaning.proofs.Occurring.{each_is_occurring}
use Rattle.param_meaning.proofs.laws.each_is_occurring.Goals as goal

pub returns : goal.returns
returns c = each_is_occurring
