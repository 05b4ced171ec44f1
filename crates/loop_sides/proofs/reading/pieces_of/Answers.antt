use Rattle.std.proofs.Common.{◌≤◌, length, rules}
use Rattle.loop_sides.proofs.Shapes.{no_pieces}
use Rattle.loop_sides.proofs.reading.pieces_of.Goals as goal

pub returns-in_default-2-clause-is : goal.returns-in_default-2-clause-is
returns-in_default-2-clause-is c =
    let more : 3 ≤ length c.b.inside.stmts = search rules in
    rw (← c.b.view_is) (no_pieces c.args.params.now c.args.counters.now c.b.inside.stmts more)
