use Rattle.std.proofs.Common.{◌≡◌, ◌++◌, take}
use Rattle.parallel_wp.proofs.precondition.add_copies.Given as goal

abbrev pub invariant-loop-literal : goal.invariant-loop-literal
invariant-loop-literal c = c.all ≡ c.fn.all ++ take c.literal-index c.literals
