use Rattle.std.proofs.Common.{◌≡◌, true}
use Rattle.loop_sides.specs.Below.{all_below}
use Rattle.loop_maps.specs.Maps.{agrees}
use Rattle.loop_maps.proofs.fitting.all_agree.Given as goal

abbrev pub invariant-loop-x : goal.invariant-loop-x
invariant-loop-x l = all_below (agrees l.left l.right l.there) l.x ≡ true
