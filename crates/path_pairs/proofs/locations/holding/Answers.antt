use Rattle.std.proofs.Common.{refl}
use Rattle.path_pairs.proofs.RestsAt.{seeks_next, seeks_found}
use Rattle.path_pairs.proofs.locations.holding.Goals as goal

pub returns-then-p-next-clause-holds : goal.returns-then-p-next-clause-holds
returns-then-p-next-clause-holds c =
    seeks_found c.args.first c.args.stmts.now c.args.p c.loop-i.i c.loop-i.n c.stmt_points.result c.index-stmts-i.result c.loop-i-test.true c.index-stmts-i.is c.stmt_points.ensures
    c.requires.numbered c.if-p-next.true c.loop-i.invariant

pub loop-i-preserved : goal.loop-i-preserved
loop-i-preserved c =
    seeks_next c.args.first c.args.stmts.now c.args.p c.loop-i.i c.loop-i.n _ c.stmt_points.result c.index-stmts-i.result c.loop-i-test.true c.index-stmts-i.is c.stmt_points.ensures
    c.requires.numbered refl c.if-p-next.false c.loop-i.invariant
