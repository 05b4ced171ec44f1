use Rattle.std.proofs.Common.{rules, ◌≡◌, ◌<◌, true, sym}
use Rattle.loop_sides.proofs.Belows.{found_below}
use Rattle.loop_faults.specs.LoopFaults.{statement_mapless}
use Rattle.loop_faults.proofs.mapping.any_mapless.Goals as goal

pub returns-then-statement_mapless : goal.returns-then-statement_mapless
returns-then-statement_mapless c =
    let below : c.loop-k.k < c.args.count = search rules in
    let found : statement_mapless c.args.count c.args.sides.now c.loop-k.k ≡ true = search rules in
    sym (found_below (statement_mapless c.args.count c.args.sides.now) _ _ below found)
