use Rattle.std.proofs.Common.{◌≡◌, ◌++◌, map, drop}
use Rattle.path_pairs.proofs.test_outcome.add_each.Given as goal

abbrev pub invariant-loop-second : goal.invariant-loop-second
invariant-loop-second l = l.all ++ map (λ second. l.first ++ second) (drop l.second-index l.seconds) ≡ l.fn.all ++ map (λ second. l.first ++ second) l.seconds
