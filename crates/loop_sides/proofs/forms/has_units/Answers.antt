use Rattle.loop_sides.proofs.Tests.{units_told}
use Rattle.loop_sides.proofs.forms.has_units.Goals as goal

pub returns-clause-is : goal.returns-clause-is
returns-clause-is c = units_told c.args.form.now c.has_unit_counters.result c.has_unit_counters.ensures
