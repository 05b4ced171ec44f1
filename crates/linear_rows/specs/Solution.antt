-- What it means that fractions meet rows: brought over a common denominator they are a point that does.
use Rattle.std.specs.Prelude.{◌≡◌, ℕ, ℤ, pos, ◌*ℤ◌, ◌<ℤ◌, List, length, All, unsigned_abs}
use Rattle.std.specs.List.{AllZip}
use Rattle.linear_rows.specs.declared.row.Row.{Row}
use Rattle.linear_rows.specs.declared.fraction.Fraction.{Fraction}
use Rattle.linear_rows.specs.declared.answer.Rows.{Rows}
use Rattle.linear_rows.specs.declared.answer.Rows.TheVariants as answer
use Rattle.linear_rows.specs.Row.{Point, IsMet}
use Rattle.linear_rows.specs.Divisor.{divisor}

-- something under the line, and no common divisor but 1
pub record IsInLowestTerms (x : Fraction) : Type 0 where
  pub positive : pos 0 <ℤ x.under
  pub lowest : divisor (unsigned_abs x.over) (unsigned_abs x.under) ≡ 1

-- a fraction is a number by a denominator: crosswise, the products are equal
abbrev pub IsOver : ℕ → ℤ → Fraction → Type 0
IsOver d z x = x.over *ℤ pos d ≡ z *ℤ x.under

-- n fractions in lowest terms that are, in order, the variables of a point that meets every row
pub record IsSolution (n : ℕ) (rows : List Row) (xs : List Fraction) : Type 0 where
  pub count : length xs ≡ n
  pub lowest : All IsInLowestTerms xs
  pub point : Point
  pub same : AllZip (IsOver point.under) point.over xs
  pub met : All (IsMet point) rows

-- where the answer is a point, it is a solution
abbrev pub MeetsRows : ℕ → List Row → Rows → Type 0
MeetsRows n rows (answer.Point xs) = IsSolution n rows xs
MeetsRows n rows _ = Unit {0}
