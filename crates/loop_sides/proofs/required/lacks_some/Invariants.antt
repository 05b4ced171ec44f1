use Rattle.std.proofs.Common.{◌≡◌, false}
use Rattle.loop_sides.specs.Below.{any_below}
use Rattle.loop_sides.specs.Required.{lacks_for_pair}
use Rattle.loop_sides.proofs.required.lacks_some.Given as goal

abbrev pub invariant-loop-b : goal.invariant-loop-b
invariant-loop-b l = any_below (lacks_for_pair l.rule l.a) l.b ≡ false
