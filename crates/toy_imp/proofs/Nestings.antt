-- The nesting of a text by counts that stop at a bound which is far beyond the greatest nesting that is told.
use Rattle.std.proofs.Common.{◌≡◌, ℕ, ◌-◌, ◌^◌, min, max, arith}
use Rattle.std.specs.Int.{div_ceil}
use Rattle.toy_imp.specs.BlockGrammar.{nesting_by}

pub nesting_of_counts : (l o : ℕ) → min (max (min l (2 ^ 64 - 1)) (div_ceil (min o (2 ^ 64 - 1)) 64)) (2 ^ 32) ≡ min (nesting_by l o) (2 ^ 32)
nesting_of_counts l o = omega arith
