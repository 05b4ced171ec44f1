-- Rows of a sum, each a bound of one value by another, and when rows that follow one another bound a value.
use Rattle.std.specs.Prelude.{◌^◌, ℤ, pos, neg_ℤ, ◌+ℤ◌, ◌-ℤ◌, Bool, false, ◌&&◌, List, [], ◌∷◌, Option, Some, None, nat_le, int_le, unsigned_abs}
use Rattle.rule_terms.specs.Term.{ValueTerm, num}
use Rattle.rule_terms.specs.Order.{value_same}
use Rattle.rule_terms.specs.declared.obligation.Atom.TheVariants.{SameValue, AtMost}
use Rattle.law_clauses.specs.Signed.{Signed, plus, minus}
use Rattle.refutations.specs.declared.refutation.Step.{Step}
use Rattle.refutations.specs.declared.refutation.SumRow.{SumRow}
use Rattle.refutations.specs.declared.refutation.SumRow.TheVariants.{Of, Back, Num, Off, OffBack}
use Rattle.law_clauses.specs.Offsets.{offset}
use Rattle.proof_steps.specs.Cited.{fact}

-- the low value is at most the high one plus a number
pub record Bound : Type 0 where
  pub low : ValueTerm
  pub high : ValueTerm
  pub by : ℤ

abbrev pub bound : ValueTerm → ValueTerm → ℤ → Option Bound
bound a b c = Some (record { low = a; high = b; by = c })

-- what a literal says of two values; not at most is at most the other way round, by one less
unfoldable pub bound_of : Option Signed → Option Bound
bound_of (Some (plus (SameValue a b))) = bound a b (pos 0)
bound_of (Some (plus (AtMost a b c))) = bound a b c
bound_of (Some (minus (AtMost b a c))) = bound a b (neg_ℤ c -ℤ pos 1)
bound_of _ = None

unfoldable pub bound_back : Option Signed → Option Bound
bound_back (Some (plus (SameValue a b))) = bound b a (pos 0)
bound_back _ = None

abbrev pub over : ValueTerm → Option (ValueTerm × ℤ) → Option Bound
over v None = None
over v (Some o) = bound v o.0 o.1

abbrev pub under : ValueTerm → Option (ValueTerm × ℤ) → Option Bound
under v None = None
under v (Some o) = bound o.0 v (neg_ℤ o.1)

unfoldable pub row_bound : List Step → SumRow → Option Bound
row_bound earlier (Of k) = bound_of (fact earlier k)
row_bound earlier (Back k) = bound_back (fact earlier k)
row_bound earlier (Num a b) = bound (num a) (num b) (a -ℤ b)
row_bound earlier (Off v) = over v (offset v)
row_bound earlier (OffBack v) = under v (offset v)

-- of magnitude at most 2^100
abbrev pub in_range : ℤ → Bool
in_range z = nat_le (unsigned_abs z) (2 ^ 100)

-- the bound is of this value, and it and the sum with it are in range
abbrev pub goes_on : Bound → ValueTerm → ℤ → Bool
goes_on b a sum = value_same b.low a && (in_range b.by && in_range (sum +ℤ b.by))

abbrev pub goes_on_by : Option Bound → ValueTerm → ℤ → (ValueTerm → ℤ → Bool) → Bool
goes_on_by None a sum next = false
goes_on_by (Some b) a sum next = goes_on b a sum && next b.high (sum +ℤ b.by)

-- rows that run from one value to another, the sum of their numbers with that of the rows before being at most `c`
unfoldable pub adds_up : List Step → List SumRow → ValueTerm → ℤ → ValueTerm → ℤ → Bool
adds_up earlier [] a sum z c = value_same a z && int_le sum c
adds_up earlier (row ∷ rows) a sum z c = goes_on_by (row_bound earlier row) a sum (λ b more. adds_up earlier rows b more z c)
