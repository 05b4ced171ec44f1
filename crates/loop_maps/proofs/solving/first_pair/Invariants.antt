use Rattle.std.proofs.Common.{◌≡◌, None}
use Rattle.loop_sides.specs.Below.{first_below}
use Rattle.loop_maps.specs.Maps.{by_first}
use Rattle.loop_maps.proofs.solving.first_pair.Given as goal

abbrev pub invariant-loop-x : goal.invariant-loop-x
invariant-loop-x l = first_below (by_first l.count l.to l.from) l.x ≡ None
