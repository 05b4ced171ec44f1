use Rattle.std.proofs.Common.{◌≡◌, None}
use Rattle.loop_sides.specs.Below.{first_below}
use Rattle.loop_maps.specs.Maps.{by_names}
use Rattle.loop_maps.proofs.solving.by_first.Given as goal

abbrev pub invariant-loop-y : goal.invariant-loop-y
invariant-loop-y l = first_below (by_names l.to l.from l.x) l.y ≡ None
