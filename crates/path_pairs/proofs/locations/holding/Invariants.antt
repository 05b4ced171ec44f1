use Rattle.path_pairs.proofs.RestsAt.{Seeks}
use Rattle.path_pairs.proofs.locations.holding.Given as goal

abbrev pub invariant-loop-i : goal.invariant-loop-i
invariant-loop-i l = Seeks l.first l.stmts l.p l.i l.n
