use Rattle.std.proofs.Common.{◌≡◌, false}
use Rattle.loop_sides.specs.Below.{any_below}
use Rattle.loop_faults.specs.LoopFaults.{statement_mapless}
use Rattle.loop_faults.proofs.mapping.any_mapless.Given as goal

abbrev pub invariant-loop-k : goal.invariant-loop-k
invariant-loop-k l = any_below (statement_mapless l.count l.sides) l.k ≡ false
