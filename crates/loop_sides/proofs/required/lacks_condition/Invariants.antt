use Rattle.std.proofs.Common.{◌≡◌, false}
use Rattle.loop_sides.specs.Below.{any_below}
use Rattle.loop_sides.specs.Required.{lacks_of}
use Rattle.loop_sides.proofs.required.lacks_condition.Given as goal

abbrev pub invariant-loop-k : goal.invariant-loop-k
invariant-loop-k l = any_below (lacks_of l.rule) l.k ≡ false
