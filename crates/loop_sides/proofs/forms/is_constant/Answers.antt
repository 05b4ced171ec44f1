use Rattle.loop_sides.proofs.Tests.{constant_told}
use Rattle.loop_sides.proofs.forms.is_constant.Goals as goal

pub returns : goal.returns
returns c = constant_told c.args.form.now c.is_constant.result c.is_constant.ensures
