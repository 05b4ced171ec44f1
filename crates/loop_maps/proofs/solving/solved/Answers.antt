use Rattle.loop_maps.proofs.Within.{one_within}
use Rattle.loop_maps.proofs.solving.solved.Goals as goal

pub returns-clause-within : goal.returns-clause-within
returns-clause-within c = rw c.solve_one.ensures (one_within c.args.form.now c.args.value.now c.requires.form c.requires.value)
