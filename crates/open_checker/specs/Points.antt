-- What an escape has to meet, point by point, of the flags, the numbers and the obligation's own literals.
-- What the universe, the arguments of terms and the laws ask is not stated here.
use Rattle.std.specs.Prelude.{◌≡◌, ◌^◌, ℤ, ◌-ℤ◌, Bool, true, false, not, ◌==◌, ◌&&◌, ◌||◌, List, Option, Some, None, unsigned_abs, nat_le}
use Rattle.std.specs.Ordering.{int_eq}
use Rattle.std.specs.List.{list_all}
use Rattle.rule_terms.specs.Term.{ValueTerm, num}
use Rattle.rule_terms.specs.declared.obligation.Obligation.{Obligation}
use Rattle.law_clauses.specs.Offsets.{offset}
use Rattle.escape_marks.specs.declared.escape.StoreMark.{StoreMark}
use Rattle.escape_marks.specs.declared.escape.ValueMark.{ValueMark}
use Rattle.escape_marks.specs.declared.escape.TestMark.{TestMark}
use Rattle.escape_marks.specs.declared.escape.Escape.{Escape}
use Rattle.escape_marks.specs.Marks.{store_mark, value_mark, one_class, literal_true, gives_true}

-- ---- stores of one class have one flag, and so have tests of one parameter at stores of one class
abbrev pub same_flag : Bool → Bool → Bool
same_flag true true = true
same_flag true false = false
same_flag false true = false
same_flag false false = true

abbrev pub ends_alike : StoreMark → StoreMark → Bool
ends_alike m n = not (m.class == n.class) || same_flag m.ends n.ends

unfoldable pub ends_as_its_class : List StoreMark → StoreMark → Bool
ends_as_its_class stores m = list_all (ends_alike m) stores

abbrev pub one_test : List StoreMark → TestMark → TestMark → Bool
one_test stores m n = m.test == n.test && one_class (store_mark stores m.store) (store_mark stores n.store)

abbrev pub holds_alike : List StoreMark → TestMark → TestMark → Bool
holds_alike stores m n = not (one_test stores m n) || same_flag m.holds n.holds

unfoldable pub holds_as_its_class : List StoreMark → List TestMark → TestMark → Bool
holds_as_its_class stores tests m = list_all (holds_alike stores m) tests

-- ---- constants are themselves, and offsets hold
abbrev pub is_itself : ValueTerm → ℤ → Bool
is_itself (num c) n = int_eq n c
is_itself _ n = true

abbrev pub is_that_number : Option ValueMark → ℤ → Bool
is_that_number None n = false
is_that_number (Some m) n = int_eq m.number n

-- a term that is another one plus a constant: that other one has the number less the constant
abbrev pub is_offset : List ValueMark → Option (ValueTerm × ℤ) → ℤ → Bool
is_offset marks None n = true
is_offset marks (Some o) n = is_that_number (value_mark marks o.0) (n -ℤ o.1)

unfoldable pub number_fits : List ValueMark → ValueMark → Bool
number_fits marks m = is_itself m.value m.number && is_offset marks (offset m.value) m.number

-- ---- no number is beyond 2^100
abbrev pub is_small : ValueMark → Bool
is_small m = nat_le (unsigned_abs m.number) (2 ^ 100)

-- ---- the `when` literals of the goal are true, and its conclusion, if any, is false
pub record GoalFails (ob : Obligation) (e : Escape) : Type 0 where
  pub when : list_all (literal_true ob.params e) ob.goal.when ≡ true
  pub gives : gives_true ob.params e ob.goal.gives ≡ false
