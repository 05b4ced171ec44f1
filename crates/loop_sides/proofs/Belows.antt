-- A number below another that passes a test, as a search over the numbers finds it.
use Rattle.std.specs.Prelude.{◌≡◌, ◌<◌, ℕ, zero, suc, Bool, true, false}
use Rattle.std.proofs.Common.{arith}
use Rattle.loop_sides.specs.Below.{any_below, all_below}

pub found_below : (test : ℕ → Bool) (n k : ℕ) → k < n → test k ≡ true → any_below test n ≡ true
found_below test zero k lt passes = absurd (omega arith)
found_below test (suc n) k lt passes = grind (arith, found_below test n k, lt, passes)

pub fails_below : (test : ℕ → Bool) (n k : ℕ) → k < n → test k ≡ false → all_below test n ≡ false
fails_below test zero k lt fails = absurd (omega arith)
fails_below test (suc n) k lt fails = grind (arith, fails_below test n k, lt, fails)
