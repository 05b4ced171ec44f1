use Rattle.std.proofs.Common.{◌+◌, ◌-◌, ◌^◌, ◌<◌, refl, sym, ◌∙◌, rules, arith}
use Rattle.toy_imp.specs.BlockFalls.{stmt_item}
use Rattle.toy_imp.specs.BlockView.{block_of}
use Rattle.toy_imp.specs.Points.{stmt_count, point_count}
use Rattle.path_pairs.specs.Along.{stmt_walks, walk_count}
use Rattle.path_pairs.proofs.Backwards.{Numbers, numbers_before, behind_before}
use Rattle.path_pairs.proofs.Capped.{bounded, bounded_stmt}
use Rattle.path_pairs.proofs.along.+walks.Goals as goal

pub walks_along-overflow_sub-n : goal.walks_along-overflow_sub-n
walks_along-overflow_sub-n t c =
    let room : c.args.first + point_count (block_of c.args.stmts.now) < 2 ^ 64 = search rules in
    let numbers : Numbers c.args.first c.loop-at.n c.stmt_points-n.result (stmt_count c.index-stmts-at.result) =
    numbers_before (2 ^ 64 - 1) (walk_count c.args.cuts.now) c.args.first c.args.after c.args.stmts.now c.loop-at.at c.loop-at.n c.loop-at.count c.stmt_points-n.result c.index-stmts-at.result
    c.loop-at-test.true c.index-stmts-at.is c.stmt_points-n.ensures room c.loop-at.invariant in
    numbers.fits

pub walks_along-stmt_walks-count-requires : goal.walks_along-stmt_walks-count-requires
walks_along-stmt_walks-count-requires t c =
    let room : c.args.first + point_count (block_of c.args.stmts.now) < 2 ^ 64 = search rules in
    let numbers : Numbers c.args.first c.loop-at.n c.stmt_points-n.result (stmt_count c.index-stmts-at.result) =
    numbers_before (2 ^ 64 - 1) (walk_count c.args.cuts.now) c.args.first c.args.after c.args.stmts.now c.loop-at.at c.loop-at.n c.loop-at.count c.stmt_points-n.result c.index-stmts-at.result
    c.loop-at-test.true c.index-stmts-at.is c.stmt_points-n.ensures room c.loop-at.invariant in
    (grind (arith, stmt_item), numbers.room)

pub walks_along-loop-at-preserved : goal.walks_along-loop-at-preserved
walks_along-loop-at-preserved t c =
    let room : c.args.first + point_count (block_of c.args.stmts.now) < 2 ^ 64 = search rules in
    let numbers : Numbers c.args.first c.loop-at.n c.stmt_points-n.result (stmt_count c.index-stmts-at.result) =
    numbers_before (2 ^ 64 - 1) (walk_count c.args.cuts.now) c.args.first c.args.after c.args.stmts.now c.loop-at.at c.loop-at.n c.loop-at.count c.stmt_points-n.result c.index-stmts-at.result
    c.loop-at-test.true c.index-stmts-at.is c.stmt_points-n.ensures room c.loop-at.invariant in
    behind_before (2 ^ 64 - 1) (stmt_walks c.args.cuts.now) (walk_count c.args.cuts.now) (λ n s b m. refl) (bounded_stmt c.args.cuts.now) c.args.first c.args.after c.args.stmts.now
    c.loop-at.at c.loop-at.n c.loop-at.count c.stmt_points-n.result c.stmt_walks-count.result c.index-stmts-at.result
    c.loop-at-test.true c.index-stmts-at.is numbers (c.stmt_walks-count.ensures ∙ sym (bounded _)) c.loop-at.invariant
