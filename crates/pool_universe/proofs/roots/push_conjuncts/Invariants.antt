use Rattle.std.proofs.Common.{◌≡◌, ◌++◌, drop}
use Rattle.pool_universe.specs.Roots.{conjuncts_roots}
use Rattle.pool_universe.proofs.roots.push_conjuncts.Given as goal

abbrev pub invariant-loop-c : goal.invariant-loop-c
invariant-loop-c l = l.all ++ conjuncts_roots (drop l.c-index l.items) ≡ l.fn.all ++ conjuncts_roots l.items
