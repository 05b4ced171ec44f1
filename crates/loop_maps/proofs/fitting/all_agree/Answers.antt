use Rattle.std.proofs.Common.{rules, ◌≡◌, ◌<◌, false, sym}
use Rattle.loop_sides.proofs.Belows.{fails_below}
use Rattle.loop_maps.specs.Maps.{agrees}
use Rattle.loop_maps.proofs.fitting.all_agree.Goals as goal

pub returns-then-not-agrees : goal.returns-then-not-agrees
returns-then-not-agrees c =
    let below : c.loop-x.x < c.args.count = search rules in
    let fails : agrees c.args.left.now c.args.right.now c.args.there.now c.loop-x.x ≡ false = search rules in
    sym (fails_below (agrees c.args.left.now c.args.right.now c.args.there.now) _ _ below fails)
