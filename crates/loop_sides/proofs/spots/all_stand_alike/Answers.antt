use Rattle.std.proofs.Common.{rules, ◌≡◌, ◌<◌, false, sym}
use Rattle.loop_sides.specs.Spots.{stands_alike}
use Rattle.loop_sides.proofs.Belows.{fails_below}
use Rattle.loop_sides.proofs.spots.all_stand_alike.Goals as goal

pub returns-then-not-stands_alike : goal.returns-then-not-stands_alike
returns-then-not-stands_alike c =
    let below : c.loop-k.k < c.args.count = search rules in
    let fails : stands_alike c.args.left.now c.args.right.now c.loop-k.k ≡ false = search rules in
    sym (fails_below (stands_alike c.args.left.now c.args.right.now) _ _ below fails)
