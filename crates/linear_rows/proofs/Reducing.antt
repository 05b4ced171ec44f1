-- What reducing a fraction comes to.
use Rattle.std.proofs.Common.{◌≡◌, ℕ, ℤ, pos, refl}
use Rattle.std.specs.Prelude.{unsigned_abs, int_div}
use Rattle.linear_rows.specs.Divisor.{divisor}
use Rattle.linear_rows.specs.Fractions.{reduced, where_small}

pub reduced_is : (over under o u : ℤ) (a b g : ℕ) → a ≡ unsigned_abs over → b ≡ unsigned_abs under → g ≡ divisor a b →
    o ≡ int_div over (pos g) → u ≡ int_div under (pos g) → where_small (record { over = o; under = u }) ≡ reduced over under
unfolding reduced
reduced_is over under o u a b g a_is b_is g_is o_is u_is = rw (o_is, u_is, g_is, a_is, b_is) refl
