use Rattle.std.proofs.Common.{◌≡◌, ◌++◌, map, drop}
use Rattle.spot_obligations.specs.Owed.{pair_of}
use Rattle.cert_checker.proofs.relation.pairs_of.Given as goal

abbrev pub invariant-loop-e : goal.invariant-loop-e
invariant-loop-e l = l.all ++ map pair_of (drop l.e-index l.entries) ≡ map pair_of l.entries
