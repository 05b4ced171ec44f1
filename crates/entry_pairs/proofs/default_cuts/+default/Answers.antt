use Rattle.std.proofs.Common.{rules, ◌≤◌, arith}
use Rattle.toy_imp.specs.Points.{stmt_count, point_count}
use Rattle.toy_imp.specs.BlockFalls.{stmt_item}
use Rattle.toy_imp.specs.BlockView.{block_of}
use Rattle.entry_pairs.proofs.DownwardCuts.{downward_room}
use Rattle.entry_pairs.proofs.default_cuts.+default.Goals as goal

pub push_block-push_stmt-requires : goal.push_block-push_stmt-requires
push_block-push_stmt-requires t c =
    let room : point_count (block_of c.as_slice-stmts.result.now) ≤ c.args.after = search rules in
    let fits : stmt_count c.index-stmts-at.result ≤ c.loop-at.first =
    downward_room c.args.all.now c.loop-at.all c.args.after c.as_slice-stmts.result.now c.loop-at.at c.loop-at.first c.loop-at.has_par c.index-stmts-at.result
    c.loop-at-test.true c.index-stmts-at.is room c.loop-at.invariant in
    (grind (arith, stmt_item), fits)
