use Rattle.std.proofs.Common.{◌≡◌, ◌+◌, ◌^◌, ◌<◌, sym, ◌∙◌, ap, arith}
use Rattle.toy_imp.specs.BlockView.{stmt_of, block_of}
use Rattle.toy_imp.specs.Points.{point_count}
use Rattle.path_pairs.specs.declared.stretch.Stretch as code
use Rattle.path_pairs.specs.Rests.{stretch}
use Rattle.path_pairs.proofs.RestsAt.{way_par, way_while, way_inside, way_then, way_else, if_fits}
use Rattle.path_pairs.proofs.locations.way_to.Goals as goal

pub returns-in-Par : goal.returns-in-Par
returns-in-Par c =
    let x : code.Stretch = record { first = c.holding-holder.result.first; stmts = c.holding-holder.result.stmts } in
    way_par c.args.first c.args.p c.holding-holder.result.first _ (block_of c.args.stmts.now) (block_of c.holding-holder.result.others.now) c.holding-holder.result.stmt.now x
    c.holding-holder.ensures.holds (sym c.s.view_is ∙ ap stmt_of c.in-Par.is) (ap (stretch c.holding-holder.result.first) c.holding-holder.ensures.stmts)

pub returns-then-p-n : goal.returns-then-p-n
returns-then-p-n c =
    let x : code.Stretch = record { first = c.holding-holder.result.first; stmts = c.holding-holder.result.stmts } in
    way_while c.args.first c.args.p c.holding-holder.result.first (block_of c.args.stmts.now) (block_of c.holding-holder.result.others.now) c.in-While.b c.holding-holder.result.stmt.now _ x
    c.holding-holder.ensures.holds (sym c.s.view_is ∙ ap stmt_of c.in-While.is) (ap (stretch c.holding-holder.result.first) c.holding-holder.ensures.stmts) c.if-p-n.true

pub returns-else-p-n : goal.returns-else-p-n
returns-else-p-n c =
    let x : code.Stretch = record { first = c.holding-holder.result.first; stmts = c.holding-holder.result.stmts } in
    way_inside c.args.first c.args.p c.holding-holder.result.first (c.holding-holder.result.first + 1) (block_of c.args.stmts.now) (block_of c.holding-holder.result.others.now) c.in-While.b c.holding-holder.result.stmt.now _ x
    c.holding-holder.ensures.holds (sym c.s.view_is ∙ ap stmt_of c.in-While.is) (ap (stretch c.holding-holder.result.first) c.holding-holder.ensures.stmts) (omega arith) c.if-p-n.false

pub returns-then-p-middle : goal.returns-then-p-middle
returns-then-p-middle c =
    let x : code.Stretch = record { first = c.holding-holder.result.first + c.block_points.result + c.block_points-in-If.result; stmts = c.holding-holder.result.others } in
    let room : c.holding-holder.result.first + (point_count c.in-If.b + point_count c.in-If.c) < 2 ^ 64 =
    if_fits c.args.first c.args.p c.holding-holder.result.first (block_of c.args.stmts.now) (block_of c.holding-holder.result.others.now) c.in-If.b c.in-If.c c.holding-holder.result.stmt.now _
    c.holding-holder.ensures.holds (sym c.s.view_is ∙ ap stmt_of c.in-If.is) c.requires.numbered in
    let place : c.holding-holder.result.first + c.block_points.result + c.block_points-in-If.result ≡ c.holding-holder.result.first + (point_count c.in-If.b + point_count c.in-If.c) =
    omega (arith, c.block_points.ensures, c.block_points-in-If.ensures, room) in
    way_then c.args.first c.args.p c.holding-holder.result.first (block_of c.args.stmts.now) (block_of c.holding-holder.result.others.now) c.in-If.b c.in-If.c c.holding-holder.result.stmt.now _ x
    c.holding-holder.ensures.holds (sym c.s.view_is ∙ ap stmt_of c.in-If.is) (ap (λ m. stretch m (block_of c.holding-holder.result.others.now)) place)
    (omega (arith, c.block_points.ensures, room, c.if-p-middle.true))

pub returns-else-p-middle : goal.returns-else-p-middle
returns-else-p-middle c =
    let x : code.Stretch = record { first = c.holding-holder.result.first + c.block_points.result + c.block_points-in-If.result; stmts = c.holding-holder.result.others } in
    let room : c.holding-holder.result.first + (point_count c.in-If.b + point_count c.in-If.c) < 2 ^ 64 =
    if_fits c.args.first c.args.p c.holding-holder.result.first (block_of c.args.stmts.now) (block_of c.holding-holder.result.others.now) c.in-If.b c.in-If.c c.holding-holder.result.stmt.now _
    c.holding-holder.ensures.holds (sym c.s.view_is ∙ ap stmt_of c.in-If.is) c.requires.numbered in
    let place : c.holding-holder.result.first + c.block_points.result + c.block_points-in-If.result ≡ c.holding-holder.result.first + (point_count c.in-If.b + point_count c.in-If.c) =
    omega (arith, c.block_points.ensures, c.block_points-in-If.ensures, room) in
    way_else c.args.first c.args.p c.holding-holder.result.first (c.holding-holder.result.first + c.block_points.result) (block_of c.args.stmts.now) (block_of c.holding-holder.result.others.now) c.in-If.b c.in-If.c
    c.holding-holder.result.stmt.now _ x c.holding-holder.ensures.holds (sym c.s.view_is ∙ ap stmt_of c.in-If.is) (ap (λ m. stretch m (block_of c.holding-holder.result.others.now)) place)
    (omega (arith, c.block_points.ensures, room)) c.if-p-middle.false
