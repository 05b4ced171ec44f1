use Rattle.std.proofs.Common.{◌≡◌, true}
use Rattle.loop_sides.specs.Below.{all_below}
use Rattle.loop_sides.specs.Spots.{stands_alike}
use Rattle.loop_sides.proofs.spots.all_stand_alike.Given as goal

abbrev pub invariant-loop-k : goal.invariant-loop-k
invariant-loop-k l = all_below (stands_alike l.left l.right) l.k ≡ true
