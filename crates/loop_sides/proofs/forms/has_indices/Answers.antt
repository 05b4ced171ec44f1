use Rattle.std.proofs.Common.{◌∙◌, ap}
use Rattle.std.specs.Prelude.{not}
use Rattle.loop_sides.proofs.SummedValues.{some_indices}
use Rattle.loop_sides.proofs.forms.has_indices.Goals as goal

pub returns : goal.returns
returns c = ap not c.is_empty.ensures ∙ some_indices c.args.indices.now
