use Rattle.std.proofs.Common.{◌≤◌, length, rules}
use Rattle.loop_sides.proofs.Shapes.{no_side}
use Rattle.loop_sides.proofs.reading.side_of.Goals as goal

pub returns-in_default-2-clause-is : goal.returns-in_default-2-clause-is
returns-in_default-2-clause-is c =
    let more : 3 ≤ length c.b.inside.stmts = search rules in
    rw (← c.b.view_is) (no_side c.args.params.now c.b.inside.stmts more)
