-- Worked examples of linear rows, of row steps, and of nests of loops, by the definitions alone.
use Rattle.std.specs.Prelude.{◌≡◌, ℕ, ℤ, pos, negsuc, ◌-◌, ◌^◌, List, [], ◌∷◌, Some, None, refl}
use Rattle.linear_rows.specs.declared.row.Row.{Row}
use Rattle.linear_rows.specs.declared.step.RowStep.{RowStep}
use Rattle.linear_rows.specs.declared.fraction.Fraction.{Fraction}
use Rattle.linear_rows.specs.Divisor.{divisor}
use Rattle.linear_rows.specs.Fractions.{reduced}
use Rattle.linear_rows.specs.Steps.{column_of, last_by}
use Rattle.linear_rows.specs.Elimination.{empty, point, eliminated}
use Rattle.iteration_order.specs.declared.affine.Affine.{Affine}
use Rattle.iteration_order.specs.declared.bounds.Bounds.{Bounds}
use Rattle.iteration_order.specs.Affine.{weighted_sum}
use Rattle.iteration_order.specs.RunningOrder.{turns_between, tuples_within, running_order}

-- a number below 0
abbrev minus : ℕ → ℤ
minus n = negsuc (n - 1)

-- the sum of the coefficients times the variables is at most the bound
abbrev row : List ℤ → ℤ → Row
row coefficients bound = record { coefficients = coefficients; bound = bound }

abbrev over : ℤ → ℕ → Fraction
over z n = record { over = z; under = pos n }

abbrev great : ℕ
great = 2 ^ 62

-- ---- what rows come to

-- x <= 3 and -x <= -4
no_number : eliminated 1 (row (pos 1 ∷ []) (pos 3) ∷ row (minus 1 ∷ []) (minus 4) ∷ []) ≡ empty
unfolding divisor reduced
no_number = refl

-- 2x <= 1 and -2x <= -1
one_half : eliminated 1 (row (pos 2 ∷ []) (pos 1) ∷ row (minus 2 ∷ []) (minus 1) ∷ []) ≡ point (over (pos 1) 2 ∷ [])
unfolding divisor reduced
one_half = refl

-- x <= 3 three times, once as 2x <= 6
upper_bound_alone : eliminated 1 (row (pos 1 ∷ []) (pos 3) ∷ row (pos 2 ∷ []) (pos 6) ∷ row (pos 1 ∷ []) (pos 3) ∷ []) ≡ point (over (pos 3) 1 ∷ [])
unfolding divisor reduced
upper_bound_alone = refl

-- the lower bound is taken before the upper one
lower_bound_first : eliminated 1 (row (minus 3 ∷ []) (minus 7) ∷ row (pos 1 ∷ []) (pos 9) ∷ []) ≡ point (over (pos 7) 3 ∷ [])
unfolding divisor reduced
lower_bound_first = refl

no_rows : eliminated 2 [] ≡ point (over (pos 0) 1 ∷ over (pos 0) 1 ∷ [])
unfolding divisor reduced
no_rows = refl

-- 0 <= -1
no_variables : eliminated 0 (row [] (minus 1) ∷ []) ≡ empty
unfolding divisor reduced
no_variables = refl

-- x + y <= 4, x - y <= 2 and -x <= -1
three_rows : eliminated 2 (row (pos 1 ∷ pos 1 ∷ []) (pos 4) ∷ row (pos 1 ∷ minus 1 ∷ []) (pos 2) ∷ row (minus 1 ∷ pos 0 ∷ []) (minus 1) ∷ [])
    ≡ point (over (pos 1) 1 ∷ over (minus 1) 1 ∷ [])
unfolding divisor reduced
three_rows = refl

-- x + y <= 1, x >= 1 and y >= 1
two_lower_bounds : eliminated 2 (row (pos 1 ∷ pos 1 ∷ []) (pos 1) ∷ row (minus 1 ∷ pos 0 ∷ []) (minus 1) ∷ row (pos 0 ∷ minus 1 ∷ []) (minus 1) ∷ []) ≡ empty
unfolding divisor reduced
two_lower_bounds = refl

-- ---- which row steps can be made, for x <= 0 and -x <= -2^62

abbrev step : ℕ → ℕ → ℕ → ℕ → ℕ → RowStep
step first by second times cut = record { first = first; by = by; second = second; times = times; cut = cut }

abbrev two_rows : List Row
two_rows = row (pos 1 ∷ []) (pos 0) ∷ row (minus 1 ∷ []) (minus great) ∷ []

abbrev both : RowStep
both = step 0 1 1 1 1

sum_of_both : last_by (column_of two_rows 0) (both ∷ []) ≡ Some (pos 0)
sum_of_both = refl

bound_of_both : last_by (column_of two_rows 1) (both ∷ []) ≡ Some (minus great)
bound_of_both = refl

divided_exactly : last_by (column_of two_rows 1) (step 0 3 1 3 3 ∷ []) ≡ Some (minus great)
divided_exactly = refl

variable_left : last_by (column_of two_rows 0) (step 0 1 1 2 1 ∷ []) ≡ Some (minus 1)
variable_left = refl

divided_by_nothing : last_by (column_of two_rows 0) (step 0 1 1 1 0 ∷ []) ≡ None
divided_by_nothing = refl

not_divided_exactly : last_by (column_of two_rows 1) (step 0 1 1 1 3 ∷ []) ≡ None
not_divided_exactly = refl

cites_itself : last_by (column_of two_rows 0) (step 0 1 2 1 1 ∷ []) ≡ None
cites_itself = refl

-- 2^62 (2^64 - 1) is within 2^126, and twice as much is not
widest_bound : last_by (column_of two_rows 1) (both ∷ step 2 (2 ^ 64 - 1) 0 0 1 ∷ []) ≡ Some (minus (2 ^ 126 - great))
widest_bound = refl

too_wide_bound : last_by (column_of two_rows 1) (both ∷ step 2 (2 ^ 64 - 1) 0 0 1 ∷ step 3 2 0 0 1 ∷ []) ≡ None
too_wide_bound = refl

-- ---- running orders

-- a form over the counter round the loop, where there is one, and one symbol
abbrev form : List ℤ → ℤ → ℤ → Affine
form counters symbol constant = record { counters = counters; symbols = symbol ∷ []; constant = constant }

abbrev between : Affine → Affine → Bounds
between low high = record { low = low; high = high }

-- for i = 0 to 2 { for j = i to 2 { .. } }
triangle : running_order (between (form [] (pos 0) (pos 0)) (form [] (pos 0) (pos 2)) ∷ between (form (pos 1 ∷ []) (pos 0) (pos 0)) (form (pos 0 ∷ []) (pos 0) (pos 2)) ∷ []) (pos 0 ∷ [])
    ≡ (pos 0 ∷ pos 0 ∷ []) ∷ (pos 0 ∷ pos 1 ∷ []) ∷ (pos 1 ∷ pos 1 ∷ []) ∷ []
unfolding weighted_sum turns_between tuples_within
triangle = refl

-- for i = 2 to 0 { .. }
no_turns : running_order (between (form [] (pos 0) (pos 2)) (form [] (pos 0) (pos 0)) ∷ []) (pos 0 ∷ []) ≡ []
unfolding weighted_sum turns_between tuples_within
no_turns = refl

-- for i = 2 * n + 5 to -n - 2 { for j = -i + n + 2 to -2 * i + n + 4 { .. } } with n = -3
falling_bounds : running_order (between (form [] (pos 2) (pos 5)) (form [] (minus 1) (minus 2)) ∷ between (form (minus 1 ∷ []) (pos 1) (pos 2)) (form (minus 2 ∷ []) (pos 1) (pos 4)) ∷ []) (minus 3 ∷ [])
    ≡ (minus 1 ∷ pos 0 ∷ []) ∷ (minus 1 ∷ pos 1 ∷ []) ∷ (minus 1 ∷ pos 2 ∷ []) ∷ (pos 0 ∷ minus 1 ∷ []) ∷ (pos 0 ∷ pos 0 ∷ []) ∷ []
unfolding weighted_sum turns_between tuples_within
falling_bounds = refl

-- the largest coefficient times the largest symbol
largest_product : running_order (between (form [] (pos (2 ^ 31 - 1)) (pos 0)) (form [] (pos (2 ^ 31 - 1)) (pos 1)) ∷ []) (pos (2 ^ 63 - 1) ∷ [])
    ≡ (pos 19807040619342712359383728129 ∷ []) ∷ []
unfolding weighted_sum turns_between tuples_within
largest_product = refl
