use Rattle.std.proofs.Common.{◌≡◌, ◌++◌, map, drop}
use Rattle.spot_obligations.proofs.pair_obligation.kinds_of.Given as goal

abbrev pub invariant-loop-p : goal.invariant-loop-p
invariant-loop-p l = l.all ++ map (λ p. p.kind) (drop l.p-index l.params) ≡ map (λ p. p.kind) l.params
