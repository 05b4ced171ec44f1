use Rattle.loop_sides.proofs.Tests.{small_told}
use Rattle.loop_sides.proofs.forms.is_small.Goals as goal

pub returns-clause-is : goal.returns-clause-is
returns-clause-is c = small_told c.args.form.now c.is_small.result c.is_small.ensures
