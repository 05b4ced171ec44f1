use Rattle.std.proofs.Common.{◌≡◌, ◌++◌, drop}
use Rattle.pool_universe.specs.Roots.{literals_roots}
use Rattle.pool_universe.proofs.roots.push_literals.Given as goal

abbrev pub invariant-loop-x : goal.invariant-loop-x
invariant-loop-x l = l.all ++ literals_roots (drop l.x-index l.items) ≡ l.fn.all ++ literals_roots l.items
