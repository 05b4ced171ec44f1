use Rattle.std.proofs.Common.{◌≡◌, ◌++◌, take}
use Rattle.pool_goals.proofs.precondition.add_copies.Given as goal

abbrev pub invariant-loop-x : goal.invariant-loop-x
invariant-loop-x l = l.all ≡ l.fn.all ++ take l.x-index l.literals
