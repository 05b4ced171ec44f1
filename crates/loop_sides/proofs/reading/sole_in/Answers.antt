use Rattle.std.proofs.Common.{◌≤◌, length, rules}
use Rattle.loop_sides.proofs.Shapes.{not_sole}
use Rattle.loop_sides.specs.Sides.{piece_in}
use Rattle.loop_sides.proofs.reading.sole_in.Goals as goal

pub returns-in_default-2-clause-is : goal.returns-in_default-2-clause-is
returns-in_default-2-clause-is c =
    let more : 2 ≤ length c.b.inside.stmts = search rules in
    rw (← c.b.view_is) (not_sole (piece_in c.args.params.now c.args.counters.now c.args.first) c.b.inside.stmts more)
