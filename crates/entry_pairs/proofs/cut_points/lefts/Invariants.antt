use Rattle.std.proofs.Common.{◌≡◌, ◌++◌, map, drop}
use Rattle.entry_pairs.proofs.cut_points.lefts.Given as goal

abbrev pub invariant-loop-a : goal.invariant-loop-a
invariant-loop-a l = l.all ++ map (λ a. a.0) (drop l.a-index l.pairs) ≡ map (λ a. a.0) l.pairs
