-- Why row steps that check leave no point: weighed by a point, what the rows leave is not negative, and a step
-- makes of two such numbers a third.
use Rattle.std.proofs.Common.{◌≡◌, ℕ, zero, suc, ◌+◌, ◌<◌, ℤ, pos, neg_ℤ, ◌+ℤ◌, ◌-ℤ◌, ◌*ℤ◌, ◌≤ℤ◌, ◌<ℤ◌, ◌-◌, List, [], ◌∷◌, ◌++◌, length, All, Option, Some, None, true, arith, refl, sym, ap, ◌∙◌, get_or, ⊎_elim}
use Rattle.std.specs.Prelude.{int_lt}
use Rattle.std.specs.Option.{option_and_then, unwrap_or}
use Rattle.std.specs.List.{last_or, list_any, list_all}
use Rattle.std.specs.Ordering.{int_eq}
use Rattle.std.proofs.lemmas.Int.{ints}
use Rattle.std.proofs.lemmas.Option.{none-some, same_Some}
use Rattle.std.proofs.lemmas.Bool.{and_parts, or_cases, cases_lt, false≢true}
use Rattle.std.proofs.lemmas.Bool.Decides.{nat_tests}
use Rattle.std.proofs.lemmas.List.{length_push, length-map, get_or_push, get_or_append_left, get_or-map}
use Rattle.std.proofs.lemmas.List.Elements.{All-head, All-tail}
use Rattle.linear_rows.specs.declared.row.Row.{Row}
use Rattle.linear_rows.specs.declared.step.RowStep.{RowStep}
use Rattle.linear_rows.specs.Row.{Point, products, IsMet, HaveNoSolution, IsRowOver}
use Rattle.linear_rows.specs.Steps.{number_in, column_of, made, column_by, last_by, is_contradiction, MakeContradiction, AreRefutation}
use Rattle.linear_rows.proofs.Products.{product_of_sum, product_commutes, first_exchanged, times_not_negative, not_negative_by}
use Rattle.linear_rows.proofs.Making.{Makes, makes}
use Rattle.linear_rows.proofs.Crosswise.{neg_times}

-- the sum of the weights times the numbers
abbrev pub weighed : List ℤ → (ℕ → ℤ) → ℤ
weighed [] f = pos 0
weighed (w ∷ ws) f = (w *ℤ f zero) +ℤ weighed ws (λ j. f (suc j))

-- a point as weights of n columns and the column of bounds
abbrev pub weights : ℕ → List ℤ → ℕ → List ℤ
weights zero xs d = pos d ∷ []
weights (suc n) [] d = pos 0 ∷ weights n [] d
weights (suc n) (x ∷ xs) d = neg_ℤ x ∷ weights n xs d

length-weights : (n : ℕ) (xs : List ℤ) (d : ℕ) → length (weights n xs d) ≡ n + 1
length-weights zero xs d = refl
length-weights (suc n) [] d = let e = length-weights n [] d in omega arith
length-weights (suc n) (x ∷ xs) d = let e = length-weights n xs d in omega arith

weighed_same : (ws : List ℤ) (f g : ℕ → ℤ) → ((j : ℕ) → j < length ws → f j ≡ g j) → weighed ws f ≡ weighed ws g
weighed_same [] f g same = refl
weighed_same (w ∷ ws) f g same =
    let rest = weighed_same ws (λ j. f (suc j)) (λ j. g (suc j)) (λ j lt. same (suc j) (omega arith)) in
    let here : f zero ≡ g zero = same zero (omega arith) in
    rw (here, rest) refl

factors : (c b t w f g h : ℤ) → c *ℤ f ≡ (b *ℤ g) +ℤ (t *ℤ h) → c *ℤ (w *ℤ f) ≡ (b *ℤ (w *ℤ g)) +ℤ (t *ℤ (w *ℤ h))
factors c b t w f g h e =
    first_exchanged c w f ∙ ap (λ z. w *ℤ z) e ∙ product_of_sum w (b *ℤ g) (t *ℤ h)
    ∙ omega (arith, ints, first_exchanged w b g, first_exchanged w t h)

-- weighing respects what a step makes in each column
weighed_step : (ws : List ℤ) (c b t : ℤ) (f g h : ℕ → ℤ) → ((j : ℕ) → j < length ws → c *ℤ f j ≡ (b *ℤ g j) +ℤ (t *ℤ h j)) →
    c *ℤ weighed ws f ≡ (b *ℤ weighed ws g) +ℤ (t *ℤ weighed ws h)
weighed_step [] c b t f g h each = omega (arith, ints, product_commutes c (pos 0), product_commutes b (pos 0), product_commutes t (pos 0))
weighed_step (w ∷ ws) c b t f g h each =
    let rest = weighed_step ws c b t (λ j. f (suc j)) (λ j. g (suc j)) (λ j. h (suc j)) (λ j lt. each (suc j) (omega arith)) in
    let here = factors c b t w (f zero) (g zero) (h zero) (each zero (omega arith)) in
    let left = product_of_sum c (w *ℤ f zero) (weighed ws (λ j. f (suc j))) in
    let first = product_of_sum b (w *ℤ g zero) (weighed ws (λ j. g (suc j))) in
    let second = product_of_sum t (w *ℤ h zero) (weighed ws (λ j. h (suc j))) in
    omega (arith, ints)

products_none : (cs : List ℤ) → products cs [] ≡ pos 0
products_none [] = refl
products_none (c ∷ cs) = refl

-- weighed, a row leaves its bound less what its coefficients come to
weighed_row : (cs : List ℤ) (b : ℤ) (xs : List ℤ) (d : ℕ) → weighed (weights (length cs) xs d) (λ j. get_or cs j b) ≡ (b *ℤ pos d) -ℤ products cs xs
weighed_row [] b xs d = omega (arith, ints, product_commutes b (pos d))
weighed_row (c ∷ cs) b [] d = let rest = weighed_row cs b [] d in omega (arith, ints, product_commutes (pos 0) c, products_none cs)
weighed_row (c ∷ cs) b (x ∷ xs) d = let rest = weighed_row cs b xs d in omega (arith, ints, neg_times x c, product_commutes x c)

last_of : (x : ℤ) (xs : List ℤ) → last_or (Some x) xs ≡ Some (get_or (x ∷ xs) (length xs) (pos 0))
last_of x [] = refl
last_of x (y ∷ ys) = last_of y ys

-- the last number of so many is the one that has all others before it
last_at : (xs : List ℤ) (count : ℕ) (z : ℤ) → length xs ≡ count → last_or None xs ≡ Some z → (0 < count) × (get_or xs (count - 1) (pos 0) ≡ z)
last_at [] count z e is = absurd (none-some z is)
last_at (x ∷ xs) count z e is =
    let before : count - 1 ≡ length xs = omega arith in
    (omega arith, ap (λ i. get_or (x ∷ xs) i (pos 0)) before ∙ same_Some _ _ (sym (last_of x xs) ∙ is))

-- a first step that is made, and what the others come to after it
first_made : (o : Option ℤ) (column : List ℤ) (steps : List RowStep) (z : ℤ) →
    option_and_then (λ all. last_or None all) (option_and_then (λ y. column_by (column ++ y ∷ []) steps) o) ≡ Some z →
    (o ≡ Some (unwrap_or o (pos 0))) × (last_by (column ++ unwrap_or o (pos 0) ∷ []) steps ≡ Some z)
first_made None column steps z is = absurd (none-some z is)
first_made (Some y) column steps z is = (refl, is)

not_negative_same : (a b : ℤ) → a ≡ b → pos 0 ≤ℤ a → pos 0 ≤ℤ b
not_negative_same a b e h = omega (arith, ints)

module _ (ws : List ℤ) (some : 0 < length ws) where
  -- the numbers of each row that is there, weighed, are not negative
  record AreMet (columns : ℕ → List ℤ) (count : ℕ) : Type 0 where
    lengths : (j : ℕ) → j < length ws → length (columns j) ≡ count
    known : (r : ℕ) → r < count → pos 0 ≤ℤ weighed ws (λ j. get_or (columns j) r (pos 0))

  -- what a step makes is not negative either, weighed
  met_step : (step : RowStep) (columns : ℕ → List ℤ) (count : ℕ) (z : ℕ → ℤ) → AreMet columns count →
      ((j : ℕ) → j < length ws → Makes step (columns j) (z j)) → pos 0 ≤ℤ weighed ws z
  met_step step columns count z met each =
      let here = each 0 some in
      let first = here.first in
      let second = here.second in
      let counted = met.lengths 0 some in
      let a = times_not_negative step.by _ (met.known step.first (omega arith)) in
      let b = times_not_negative step.times _ (met.known step.second (omega arith)) in
      let whole = weighed_step ws (pos step.cut) (pos step.by) (pos step.times) z
      (λ j. get_or (columns j) step.first (pos 0)) (λ j. get_or (columns j) step.second (pos 0)) (λ j lt. (each j lt).exact) in
      not_negative_by step.cut (weighed ws z) here.cut (omega (arith, ints))

  met_more : (columns : ℕ → List ℤ) (count : ℕ) (z : ℕ → ℤ) → AreMet columns count → pos 0 ≤ℤ weighed ws z → AreMet (λ j. columns j ++ z j ∷ []) (count + 1)
  met_more columns count z met new = record {
    lengths = λ j lt. length_push (columns j) (z j) ∙ ap (λ n. n + 1) (met.lengths j lt);
    known = λ r lt. ⊎_elim
        (λ below. not_negative_same _ _
        (weighed_same ws _ _ (λ j lt'. let e = met.lengths j lt' in sym (get_or_append_left (columns j) (z j ∷ []) (pos 0) r (omega arith)))) (met.known r below))
        (λ above. not_negative_same _ _
        (weighed_same ws _ _ (λ j lt'. let e = met.lengths j lt' in sym (get_or_push (columns j) (z j) (pos 0) r (omega arith)))) new)
        (cases_lt r count);
  }

  -- so the last number that steps make, in each column, is not negative
  met_last : (steps : List RowStep) (columns : ℕ → List ℤ) (count : ℕ) (last : ℕ → ℤ) → AreMet columns count →
      ((j : ℕ) → j < length ws → last_by (columns j) steps ≡ Some (last j)) → pos 0 ≤ℤ weighed ws last
  met_last [] columns count last met is =
      let at : (j : ℕ) → j < length ws → (0 < count) × (get_or (columns j) (count - 1) (pos 0) ≡ last j) = λ j lt. last_at (columns j) count (last j) (met.lengths j lt) (is j lt) in
      let positive = (at 0 some).0 in
      not_negative_same _ _ (weighed_same ws _ _ (λ j lt. (at j lt).1)) (met.known (count - 1) (omega arith))
  met_last (step ∷ steps) columns count last met is =
      let z : ℕ → ℤ = λ j. unwrap_or (made step (columns j)) (pos 0) in
      let each : (j : ℕ) → j < length ws → (made step (columns j) ≡ Some (z j)) × (last_by (columns j ++ z j ∷ []) steps ≡ Some (last j)) =
      λ j lt. first_made (made step (columns j)) (columns j) steps (last j) (is j lt) in
      met_last steps (λ j. columns j ++ z j ∷ []) (count + 1) last
      (met_more columns count z met (met_step step columns count z met (λ j lt. makes step (columns j) (z j) (each j lt).0)))
      (λ j lt. (each j lt).1)

-- where the coefficients are 0 the bound alone weighs
weighed_bound : (n : ℕ) (xs : List ℤ) (d : ℕ) (f : ℕ → ℤ) → ((j : ℕ) → j < n → f j ≡ pos 0) → weighed (weights n xs d) f ≡ pos d *ℤ f n
weighed_bound zero xs d f none = omega (arith, ints)
weighed_bound (suc n) [] d f none =
    let rest = weighed_bound n [] d (λ j. f (suc j)) (λ j lt. none (suc j) (omega arith)) in
    let here : pos 0 *ℤ f zero ≡ pos 0 = ap (λ z. pos 0 *ℤ z) (none zero (omega arith)) in
    omega (arith, ints)
weighed_bound (suc n) (x ∷ xs) d f none =
    let rest = weighed_bound n xs d (λ j. f (suc j)) (λ j lt. none (suc j) (omega arith)) in
    let here : neg_ℤ x *ℤ f zero ≡ neg_ℤ x *ℤ pos 0 = ap (λ z. neg_ℤ x *ℤ z) (none zero (omega arith)) in
    omega (arith, ints, product_commutes (neg_ℤ x) (pos 0))

no_row : Row
no_row = record { coefficients = []; bound = pos 0 }

-- a column's number is that of the row
number_of : (rows : List Row) (r j : ℕ) → r < length rows → get_or (column_of rows j) r (pos 0) ≡ number_in j (get_or rows r no_row)
number_of rows r j lt = get_or-map (number_in j) rows r no_row (pos 0) lt

-- a row that is met leaves no negative number
met_row : (n : ℕ) (row : Row) (point : Point) → IsRowOver n row → IsMet point row → pos 0 ≤ℤ weighed (weights n point.over point.under) (λ j. number_in j row)
met_row n row point over met =
    let left = weighed_row row.coefficients row.bound point.over point.under in
    let whole : weighed (weights n point.over point.under) (λ j. number_in j row) ≡ (row.bound *ℤ pos point.under) -ℤ products row.coefficients point.over =
    ap (λ m. weighed (weights m point.over point.under) (λ j. number_in j row)) (sym over.count) ∙ left in
    omega (arith, ints)

some_weights : (n : ℕ) (xs : List ℤ) (d : ℕ) → 0 < length (weights n xs d)
some_weights n xs d = let e = length-weights n xs d in omega arith

-- the given rows, at a point that meets them
met_given : (n : ℕ) (rows : List Row) (point : Point) → All (IsRowOver n) rows → All (IsMet point) rows →
    AreMet (weights n point.over point.under) (some_weights n point.over point.under) (column_of rows) (length rows)
met_given n rows point over met = record {
  lengths = λ j lt. length-map rows (number_in j);
  known = λ r lt. not_negative_same _ _
      (weighed_same (weights n point.over point.under) (λ j. number_in j (get_or rows r no_row)) (λ j. get_or (column_of rows j) r (pos 0)) (λ j _. sym (number_of rows r j lt)))
      (met_row n (get_or rows r no_row) point (over r no_row lt) (met r no_row lt));
}

-- steps that make a contradiction refute the rows
made_refutes : (n : ℕ) (rows : List Row) (steps : List RowStep) → All (IsRowOver n) rows → MakeContradiction n rows steps → HaveNoSolution rows
made_refutes n rows steps over shown point met =
    let ws = weights n point.over point.under in
    let last : ℕ → ℤ = λ j. unwrap_or (last_by (column_of rows j) steps) (pos 0) in
    let count = length-weights n point.over point.under in
    let bound_is : last n ≡ shown.bound = ap (λ o. unwrap_or o (pos 0)) shown.bound_is in
    let none : (j : ℕ) → j < n → last j ≡ pos 0 = λ j lt. ap (λ o. unwrap_or o (pos 0)) (shown.coefficients j lt) in
    let is : (j : ℕ) → j < length ws → last_by (column_of rows j) steps ≡ Some (last j) = λ j lt.
    ⊎_elim
    (λ below. shown.coefficients j below ∙ ap Some (sym (none j below)))
    (λ above. let e : j ≡ n = omega arith in
    ap (λ k. last_by (column_of rows k) steps) e ∙ shown.bound_is ∙ ap Some (sym bound_is) ∙ ap (λ k. Some (last k)) (sym e))
    (cases_lt j n) in
    let all = met_last ws (some_weights n point.over point.under) steps (column_of rows) (length rows) last (met_given n rows point over met) is in
    let alone = weighed_bound n point.over point.under last none in
    let not_negative = not_negative_by point.under (last n) point.positive (omega (arith, ints)) in
    let negative = shown.negative in
    omega (arith, ints)

by_test : (a : ℤ) → int_lt a (pos 0) ≡ true → a <ℤ pos 0
by_test a h = grind (arith, ints)

is_zero : (a : ℤ) → int_eq a (pos 0) ≡ true → a ≡ pos 0
is_zero a h = grind (arith, nat_tests)

pub products_zero : (cs xs : List ℤ) → list_all (λ a. int_eq a (pos 0)) cs ≡ true → products cs xs ≡ pos 0
products_zero [] xs h = refl
products_zero (c ∷ cs) [] h = refl
products_zero (c ∷ cs) (x ∷ xs) h =
    let both = and_parts _ _ h in
    let rest = products_zero cs xs both.1 in
    let here : c *ℤ x ≡ pos 0 *ℤ x = ap (λ z. z *ℤ x) (is_zero c both.0) in
    omega (arith, ints, product_commutes (pos 0) x)

contradiction_refutes : (row : Row) (point : Point) → is_contradiction row ≡ true → IsMet point row → ⊥
contradiction_refutes row point is met =
    let both = and_parts _ _ is in
    let none = products_zero row.coefficients point.over both.0 in
    let negative : row.bound <ℤ pos 0 = by_test row.bound both.1 in
    let turned = product_commutes row.bound (pos point.under) in
    let not_negative = not_negative_by point.under row.bound point.positive (omega (arith, ints)) in
    omega (arith, ints)

pub given_refutes : (rows : List Row) (point : Point) → list_any is_contradiction rows ≡ true → All (IsMet point) rows → ⊥
given_refutes [] point is met = false≢true is
given_refutes (row ∷ rows) point is met =
    ⊎_elim
    (λ here. contradiction_refutes row point here (All-head (IsMet point) row rows met))
    (λ there. given_refutes rows point there (All-tail (IsMet point) row rows met))
    (or_cases _ _ is)

-- the columns' last numbers show that the steps check
pub steps_check : (n : ℕ) (rows : List Row) (steps : List RowStep) (bound : ℤ) → (length steps ≡ 0 → ⊥) →
    ((j : ℕ) → j < n → last_by (column_of rows j) steps ≡ Some (pos 0)) → last_by (column_of rows n) steps ≡ Some bound → int_lt bound (pos 0) ≡ true →
    AreRefutation n rows steps
steps_check n rows [] bound some none is negative = absurd (some refl)
steps_check n rows (step ∷ steps) bound some none is negative = record { coefficients = none; bound = bound; bound_is = is; negative = by_test bound negative }

-- steps that check refute the rows
pub no_solution : (n : ℕ) (rows : List Row) (steps : List RowStep) → All (IsRowOver n) rows → AreRefutation n rows steps → HaveNoSolution rows
no_solution n rows [] over shown point met = given_refutes rows point shown met
no_solution n rows (step ∷ steps) over shown point met = made_refutes n rows (step ∷ steps) over shown point met
