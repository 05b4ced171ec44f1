use Rattle.loop_maps.proofs.Within.{two_within}
use Rattle.loop_maps.proofs.solving.solved_pair.Goals as goal

pub returns-clause-within : goal.returns-clause-within
returns-clause-within c =
    rw c.solve_two.ensures
    (two_within c.args.first.now c.args.second.now c.args.first_value.now c.args.second_value.now c.requires.first c.requires.second c.requires.first_value c.requires.second_value)
