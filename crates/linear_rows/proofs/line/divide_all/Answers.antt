use Rattle.std.proofs.Common.{rules, ◌≡◌, length}
use Rattle.linear_rows.proofs.Walking.{divided_all}
use Rattle.linear_rows.proofs.line.divide_all.Goals as goal

pub returns : goal.returns
returns c =
    let same : length c.loop-z.line ≡ length c.args.line.now = search rules in
    divided_all c.args.line.now c.loop-z.line c.args.cut c.loop-z.z-index same c.loop-z-test.false c.loop-z.invariant.done
