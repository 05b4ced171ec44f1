use Rattle.std.proofs.Common.{◌≡◌, None}
use Rattle.loop_sides.specs.Below.{first_below}
use Rattle.loop_maps.specs.Maps.{by_name}
use Rattle.loop_maps.proofs.solving.first_name.Given as goal

abbrev pub invariant-loop-x : goal.invariant-loop-x
invariant-loop-x l = first_below (by_name l.to l.from) l.x ≡ None
