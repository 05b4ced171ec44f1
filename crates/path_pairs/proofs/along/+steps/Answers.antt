use Rattle.std.proofs.Common.{◌+◌, ◌^◌, ◌<◌, refl, rules, arith}
use Rattle.toy_imp.specs.BlockFalls.{stmt_item}
use Rattle.toy_imp.specs.BlockView.{block_of}
use Rattle.toy_imp.specs.Points.{stmt_count, point_count}
use Rattle.path_pairs.specs.Along.{stmt_steps, most_steps}
use Rattle.path_pairs.proofs.Backwards.{Numbers, numbers_before, behind_before}
use Rattle.path_pairs.proofs.Capped.{capped_stmt}
use Rattle.path_pairs.proofs.along.+steps.Goals as goal

pub steps_along-overflow_sub-n : goal.steps_along-overflow_sub-n
steps_along-overflow_sub-n t c =
    let room : c.args.first + point_count (block_of c.args.stmts.now) < 2 ^ 64 = search rules in
    let numbers : Numbers c.args.first c.loop-at.n c.stmt_points-n.result (stmt_count c.index-stmts-at.result) =
    numbers_before 65 (most_steps c.args.cuts.now) c.args.first c.args.after c.args.stmts.now c.loop-at.at c.loop-at.n c.loop-at.most c.stmt_points-n.result c.index-stmts-at.result
    c.loop-at-test.true c.index-stmts-at.is c.stmt_points-n.ensures room c.loop-at.invariant in
    numbers.fits

pub steps_along-stmt_steps-most-requires : goal.steps_along-stmt_steps-most-requires
steps_along-stmt_steps-most-requires t c =
    let room : c.args.first + point_count (block_of c.args.stmts.now) < 2 ^ 64 = search rules in
    let numbers : Numbers c.args.first c.loop-at.n c.stmt_points-n.result (stmt_count c.index-stmts-at.result) =
    numbers_before 65 (most_steps c.args.cuts.now) c.args.first c.args.after c.args.stmts.now c.loop-at.at c.loop-at.n c.loop-at.most c.stmt_points-n.result c.index-stmts-at.result
    c.loop-at-test.true c.index-stmts-at.is c.stmt_points-n.ensures room c.loop-at.invariant in
    (grind (arith, stmt_item), (numbers.room, omega (arith, c.loop-at.invariant.counted)))

pub steps_along-loop-at-preserved : goal.steps_along-loop-at-preserved
steps_along-loop-at-preserved t c =
    let room : c.args.first + point_count (block_of c.args.stmts.now) < 2 ^ 64 = search rules in
    let numbers : Numbers c.args.first c.loop-at.n c.stmt_points-n.result (stmt_count c.index-stmts-at.result) =
    numbers_before 65 (most_steps c.args.cuts.now) c.args.first c.args.after c.args.stmts.now c.loop-at.at c.loop-at.n c.loop-at.most c.stmt_points-n.result c.index-stmts-at.result
    c.loop-at-test.true c.index-stmts-at.is c.stmt_points-n.ensures room c.loop-at.invariant in
    behind_before 65 (stmt_steps c.args.cuts.now) (most_steps c.args.cuts.now) (λ n s b m. refl) (capped_stmt c.args.cuts.now) c.args.first c.args.after c.args.stmts.now
    c.loop-at.at c.loop-at.n c.loop-at.most c.stmt_points-n.result c.stmt_steps-most.result c.index-stmts-at.result
    c.loop-at-test.true c.index-stmts-at.is numbers c.stmt_steps-most.ensures c.loop-at.invariant
