use Rattle.std.proofs.Common.{◌≡◌, drop}
use Rattle.pool_universe.specs.PooledParts.{marked_all}
use Rattle.pool_universe.proofs.sweep.mark_all.Given as goal

abbrev pub invariant-loop-n : goal.invariant-loop-n
invariant-loop-n l = marked_all l.marks (drop l.n-index l.numbers) ≡ marked_all l.fn.marks l.numbers
