-- What the elimination comes to: nothing meets the rows, a point, or the first limit.
use Rattle.std.specs.Prelude.{◌≡◌, ℕ, zero, suc, ◌+◌, ℤ, pos, Bool, cond, List, [], ◌∷◌, map, Option, Some, None, Result, Ok, Err}
use Rattle.std.specs.Option.{option_and_then}
use Rattle.std.specs.List.{filter, list_any}
use Rattle.linear_rows.specs.declared.row.Row.{Row}
use Rattle.linear_rows.specs.declared.fraction.Fraction.{Fraction}
use Rattle.linear_rows.specs.declared.answer.Rows.{Rows}
use Rattle.linear_rows.specs.declared.answer.Rows.TheVariants.{Empty, Point, Limit}
use Rattle.linear_rows.specs.declared.answer.RowMark.{RowMark}
use Rattle.linear_rows.specs.declared.answer.RowKind.{RowKind}
use Rattle.linear_rows.specs.declared.answer.RowKind.TheVariants as kind
use Rattle.linear_rows.specs.Row.{HaveNoSolution}
use Rattle.linear_rows.specs.Steps.{AreRefutation}
use Rattle.linear_rows.specs.Fractions.{whole, product, difference, quotient, is_less}
use Rattle.linear_rows.specs.Stage.{line_of, is_never_met, is_lower, is_upper, gathered, next_stage}

pub data Outcome : Type 0 where
  empty : Outcome
  point : List Fraction → Outcome
  limit : RowMark → Outcome

-- a bound less the products with the variables, taken off one by one in order
abbrev pub left_over : Fraction → List ℤ → List Fraction → Option Fraction
left_over sum (a ∷ coefficients) (x ∷ xs) =
    option_and_then (λ p. option_and_then (λ rest. left_over rest coefficients xs) (difference sum p)) (product a x)
left_over sum _ _ = Some sum

-- the bound that a line sets to its first variable, given the values of those after it
abbrev pub bound_on : List Fraction → List ℤ → Option Fraction
bound_on xs (b ∷ a ∷ coefficients) = option_and_then (λ rest. quotient rest a) (left_over (whole b) coefficients xs)
bound_on xs _ = None

-- the better of the bounds so far and one more
abbrev pub better : (Fraction → Fraction → Bool) → Option Fraction → Fraction → Fraction
better is_better None y = y
better is_better (Some x) y = cond (is_better x y) y x

-- the best of the bounds that lines set, where each is within the limit; nothing where there is no line
abbrev pub best_bound : (Fraction → Fraction → Bool) → List Fraction → Option Fraction → List (List ℤ) → Option (Option Fraction)
best_bound is_better xs best [] = Some best
best_bound is_better xs best (line ∷ lines) = option_and_then (λ y. best_bound is_better xs (Some (better is_better best y)) lines) (bound_on xs line)

-- the greatest of the lower bounds, and the least of the upper bounds
abbrev pub best_lower : List Fraction → Option Fraction → List (List ℤ) → Option (Option Fraction)
best_lower xs best lines = best_bound is_less xs best (filter is_lower lines)

abbrev pub best_upper : List Fraction → Option Fraction → List (List ℤ) → Option (Option Fraction)
best_upper xs best lines = best_bound (λ x y. is_less y x) xs best (filter is_upper lines)

-- the greatest lower bound, else the least upper bound, else 0
abbrev pub or_zero : Option Fraction → Fraction
or_zero None = whole (pos 0)
or_zero (Some x) = x

abbrev pub value_by : List (List ℤ) → List Fraction → Option Fraction → Option Fraction
value_by stage xs (Some x) = Some x
value_by stage xs None = option_and_then (λ x. Some (or_zero x)) (best_upper xs None stage)

abbrev pub value : List (List ℤ) → List Fraction → Option Fraction
value stage xs = option_and_then (value_by stage xs) (best_lower xs None stage)

-- the answer with the value of the first variable before the values of the others
abbrev pub put_before : ℕ → List Fraction → Option Fraction → Outcome
put_before k xs (Some x) = point (x ∷ xs)
put_before k xs None = limit (record { stage = k; what = kind.Point })

abbrev pub with_first : ℕ → List (List ℤ) → Outcome → Outcome
with_first k stage (point xs) = put_before k xs (value stage xs)
with_first k stage outcome = outcome

-- what comes after a stage that is whole, or the limit that it passed
abbrev pub after_stage : (List (List ℤ) → Outcome) → ℕ → Result (List (List ℤ)) RowKind → Outcome
after_stage f k (Ok stage) = f stage
after_stage f k (Err what) = limit (record { stage = k; what = what })

-- what stage k, of n variables, comes to
abbrev pub outcome_of : ℕ → ℕ → List (List ℤ) → Outcome
outcome_of zero k stage = cond (list_any is_never_met stage) empty (point [])
outcome_of (suc n) k stage = cond (list_any is_never_met stage) empty (after_stage (λ next. with_first k stage (outcome_of n (k + 1) next)) (k + 1) (next_stage stage))

-- what the rows come to: stage 0 is made from them
abbrev pub eliminated : ℕ → List Row → Outcome
eliminated n rows = after_stage (outcome_of n 0) 0 (gathered [] (map line_of rows))

-- the answer of the elimination is right: `Empty` has row steps that check
abbrev pub IsEliminated : ℕ → List Row → Rows → Type 0
IsEliminated n rows (Empty steps) = (eliminated n rows ≡ empty) × AreRefutation n rows steps
IsEliminated n rows (Point xs) = eliminated n rows ≡ point xs
IsEliminated n rows (Limit mark) = eliminated n rows ≡ limit mark

-- where the answer is `Empty`, no point of fractions meets the rows
abbrev pub Refutes : List Row → Rows → Type 0
Refutes rows (Empty steps) = HaveNoSolution rows
Refutes rows _ = Unit {0}
