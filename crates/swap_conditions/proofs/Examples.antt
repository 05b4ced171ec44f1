-- Worked rows: blocks that swap by text and that do not, region by region, for each way to write an index. Counters are i and j.
use Rattle.std.specs.Prelude.{◌≡◌, ℕ, pos, true, false, List, [], ◌∷◌, refl}
use Rattle.toy_imp.specs.declared.name.Name.{Name}
use Rattle.toy_imp.specs.declared.name.Name.TheVariants.{Own}
use Rattle.toy_imp.specs.declared.condition.Region.TheVariants as region
use Rattle.toy_imp.specs.Expr.{Expr, Exprs, num, at, add, sub, no_exprs, expr}
use Rattle.toy_imp.specs.Test.{less}
use Rattle.toy_imp.specs.Block.{Block, empty, stmt, put, assert_that, let_in}
use Rattle.swap_conditions.specs.SwapText.{swaps_by_text}

-- names and variables of one letter
abbrev letter : ℕ → Name
letter c = Own (c ∷ [])

abbrev variable_of : ℕ → Expr
variable_of c = at (letter c) no_exprs

abbrev i : Expr
i = variable_of 105

abbrev j : Expr
j = variable_of 106

abbrev over_i : List Name
over_i = letter 105 ∷ []

abbrev over_both : List Name
over_both = letter 105 ∷ letter 106 ∷ []

abbrev one : Expr → Exprs
one e = expr e no_exprs

abbrev two : Expr → Expr → Exprs
two e f = expr e (expr f no_exprs)

-- `a[..] := x;` and `b[i] := a[..];`
abbrev writes_at : Exprs → Block
writes_at is = stmt (put (letter 97) is (variable_of 120)) empty

abbrev reads_at : Exprs → Block
reads_at is = stmt (put (letter 98) (one i) (at (letter 97) is)) empty

-- ---- `k + c`, `c + k` and `k - c`
same_constant : swaps_by_text (writes_at (one (add i (num (pos 1))))) (reads_at (one (add (num (pos 1)) i))) over_i region.Distinct ≡ true
same_constant = refl

same_difference : swaps_by_text (writes_at (one (sub i (num (pos 1))))) (reads_at (one (sub i (num (pos 1))))) over_i region.Distinct ≡ true
same_difference = refl

other_constant : swaps_by_text (writes_at (one i)) (reads_at (one (sub i (num (pos 1))))) over_i region.Distinct ≡ false
other_constant = refl

-- ---- two positions, of which the second will do, and another number of indices
second_position : swaps_by_text (writes_at (two (num (pos 0)) i)) (reads_at (two i i)) over_i region.Distinct ≡ true
second_position = refl

no_position : swaps_by_text (writes_at (two (num (pos 0)) i)) (reads_at (two i (num (pos 0)))) over_i region.Distinct ≡ false
no_position = refl

other_count : swaps_by_text (writes_at (one i)) (reads_at (two i i)) over_i region.Distinct ≡ false
other_count = refl

-- ---- `earlier` with one counter: no constant of the first below one of the second
behind : swaps_by_text (writes_at (one i)) (reads_at (one (sub i (num (pos 1))))) over_i region.Earlier ≡ true
behind = refl

ahead : swaps_by_text (writes_at (one i)) (reads_at (one (add i (num (pos 1))))) over_i region.Earlier ≡ false
ahead = refl

-- ---- two counters: one will do for `crossing`, and the others ask for both
one_for_crossing : swaps_by_text (writes_at (one j)) (reads_at (one j)) over_both region.Crossing ≡ true
one_for_crossing = refl

one_for_distinct : swaps_by_text (writes_at (one j)) (reads_at (one j)) over_both region.Distinct ≡ false
one_for_distinct = refl

both_for_distinct : swaps_by_text (writes_at (two j i)) (reads_at (two j i)) over_both region.Distinct ≡ true
both_for_distinct = refl

both_for_earlier : swaps_by_text (writes_at (two j i)) (reads_at (two (sub j (num (pos 1))) i)) over_both region.Earlier ≡ false
both_for_earlier = refl

-- ---- what all regions ask: a variable that is shared has no index; counters that differ and are not written; no `assert`
shared_variable : swaps_by_text (stmt (put (letter 120) no_exprs i) empty) (reads_at (one (variable_of 120))) over_i region.Distinct ≡ false
shared_variable = refl

same_counters : swaps_by_text empty empty (letter 105 ∷ letter 105 ∷ []) region.Crossing ≡ false
same_counters = refl

counter_set : swaps_by_text (stmt (let_in (letter 105) (num (pos 1)) empty) empty) empty over_i region.Distinct ≡ false
counter_set = refl

assert_stands : swaps_by_text empty (stmt (assert_that (less i j)) empty) over_i region.Distinct ≡ false
assert_stands = refl
