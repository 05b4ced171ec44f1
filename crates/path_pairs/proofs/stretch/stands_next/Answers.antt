use Rattle.std.proofs.Common.{◌+◌, ◌^◌, ◌<◌, arith}
use Rattle.path_pairs.proofs.FromNext.{standing_at, next_fits}
use Rattle.path_pairs.proofs.stretch.stands_next.Goals as goal

pub overflow_add-result : goal.overflow_add-result
overflow_add-result c =
    let fits : c.index-rest-i.result.first + c.stmt_points.result < 2 ^ 64 =
    next_fits c.args.rest.now c.loop-i.i c.stmt_points.result c.index-rest-i.result c.in-Some.s.now c.in-Some.others.now c.loop-i-test.true c.index-rest-i.is c.requires c.loop-i.invariant c.in-Some.ensures.cases.0
    c.stmt_points.ensures in
    omega (arith, fits)

pub returns-in-Some : goal.returns-in-Some
returns-in-Some c =
    standing_at c.args.rest.now c.loop-i.i c.stmt_points.result c.index-rest-i.result c.in-Some.s.now c.in-Some.others.now c.loop-i-test.true c.index-rest-i.is c.requires c.loop-i.invariant c.in-Some.ensures.cases.0
    c.stmt_points.ensures
