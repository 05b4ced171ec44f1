use Rattle.loop_sides.proofs.SummedValues.{summed_is_value}
use Rattle.loop_sides.proofs.laws.summed_is_value.Goals as goal

pub returns : goal.returns
returns c = summed_is_value
