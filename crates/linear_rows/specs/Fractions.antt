-- Fractions in lowest terms, with parts of magnitude at most 2^62, and how they are computed.
-- `under` is at least 1. Each answer is nothing where a part would pass the limit.
use Rattle.std.specs.Prelude.{ℤ, pos, neg_ℤ, ◌-ℤ◌, ◌*ℤ◌, ◌^◌, ◌&&◌, ◌≤◌, ◌<ℤ◌, Bool, cond, nat_le, int_lt, int_div, unsigned_abs, Option, Some, None}
use Rattle.linear_rows.specs.declared.fraction.Fraction.{Fraction}
use Rattle.linear_rows.specs.Divisor.{divisor}

-- a number of magnitude at most 2^62
abbrev pub is_small : ℤ → Bool
is_small z = nat_le (unsigned_abs z) (2 ^ 62)

-- the fraction, where both parts are small
abbrev pub where_small : Fraction → Option Fraction
where_small f = cond (is_small f.over && is_small f.under) (Some f) None

-- over / under in lowest terms
abbrev pub lowest_terms : ℤ → ℤ → Fraction
lowest_terms over under = let g = divisor (unsigned_abs over) (unsigned_abs under) in record { over = int_div over (pos g); under = int_div under (pos g) }

unfoldable pub reduced : ℤ → ℤ → Option Fraction
reduced over under = where_small (lowest_terms over under)

-- a whole number
abbrev pub whole : ℤ → Fraction
whole z = record { over = z; under = pos 1 }

-- a coefficient times a fraction
abbrev pub product : ℤ → Fraction → Option Fraction
product a x = reduced (a *ℤ x.over) x.under

abbrev pub difference : Fraction → Fraction → Option Fraction
difference s p = reduced ((s.over *ℤ p.under) -ℤ (p.over *ℤ s.under)) (s.under *ℤ p.under)

-- a fraction divided by a coefficient that is not 0
abbrev pub quotient : Fraction → ℤ → Option Fraction
quotient s a = cond (int_lt a (pos 0)) (reduced (neg_ℤ s.over) (s.under *ℤ neg_ℤ a)) (reduced s.over (s.under *ℤ a))

abbrev pub is_less : Fraction → Fraction → Bool
is_less x y = int_lt (x.over *ℤ y.under) (y.over *ℤ x.under)

-- parts of magnitude at most 2^62, and something under the line
pub record IsProper (x : Fraction) : Type 0 where
  pub over : unsigned_abs x.over ≤ 2 ^ 62
  pub under : unsigned_abs x.under ≤ 2 ^ 62
  pub positive : pos 0 <ℤ x.under
