-- The rows of a sum as they are walked: the sides of a row as the code holds them, and how far the rows have come.
-- `Sums` says what a row bounds and when rows add up.
use Rattle.std.specs.Prelude.{ℤ, ◌+ℤ◌, Bool, true, false, Option, Some, None}
use Rattle.rule_terms.specs.Term.{ValueTerm, num}
use Rattle.proof_steps.specs.declared.sums.Side.{Side}
use Rattle.proof_steps.specs.declared.sums.Side.TheVariants.{Term, Number}
use Rattle.proof_steps.specs.declared.sums.Row.{Row}
use Rattle.proof_steps.specs.declared.sums.Reached.{Reached}
use Rattle.proof_steps.specs.Sums.{Bound, goes_on}

abbrev pub side_of : Side → ValueTerm
side_of (Term v) = v.now
side_of (Number z) = num z

abbrev pub bound_by : Row → Bound
bound_by row = record { low = side_of row.low; high = side_of row.high; by = row.by }

abbrev pub reached : Reached → ValueTerm × ℤ
reached here = (side_of here.side, here.sum)

-- the value that a bound leads to and the sum there, where it goes on
abbrev pub gone_on : Bool → Bound → ℤ → Option (ValueTerm × ℤ)
gone_on false b sum = None
gone_on true b sum = Some (b.high, sum +ℤ b.by)

abbrev pub next_reached : Option Bound → ValueTerm × ℤ → Option (ValueTerm × ℤ)
next_reached None here = None
next_reached (Some b) here = gone_on (goes_on b here.0 here.1) b here.1
