use Rattle.std.proofs.Common.{◌≡◌, drop, find}
use Rattle.spot_obligations.specs.Owed.{stands_at}
use Rattle.spot_obligations.proofs.owed.arrival.Given as goal

abbrev pub invariant-loop-e : goal.invariant-loop-e
invariant-loop-e l = find (stands_at l.p l.q) (drop l.e-index l.entries) ≡ find (stands_at l.p l.q) l.entries
