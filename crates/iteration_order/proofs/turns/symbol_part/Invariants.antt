use Rattle.std.proofs.Common.{◌≡◌, ◌*◌, ◌^◌, ◌+ℤ◌, drop}
use Rattle.iteration_order.specs.Affine.{weighted_sum, IsAtMost}
use Rattle.iteration_order.proofs.turns.symbol_part.Given as goal

abbrev pub invariant-loop-k : goal.invariant-loop-k
invariant-loop-k l = record {
  left : l.sum +ℤ weighted_sum (drop l.k l.coefficients) (drop l.k l.symbols) ≡ weighted_sum l.coefficients l.symbols;
  small : IsAtMost (l.k * 2 ^ 94) l.sum;
}
