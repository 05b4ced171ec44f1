-- The row that a recorded step makes is the line that it is recorded for, and the rows before it stay.
use Rattle.std.proofs.Common.{◌≡◌, ℕ, zero, suc, ◌+◌, ◌^◌, ◌<◌, ◌≤◌, true, ℤ, pos, ◌+ℤ◌, ◌*ℤ◌, ◌<ℤ◌, List, [], ◌∷◌, ◌++◌, map, length, Option, Some, None, arith, refl, sym, ap, ◌∙◌, subst, get_or}
use Rattle.std.specs.Prelude.{unsigned_abs, int_div, int_lt, slice_get}
use Rattle.std.specs.Int.{◌∣◌}
use Rattle.std.specs.Option.{option_and_then}
use Rattle.std.specs.List.{AllByRecursion}
use Rattle.std.proofs.lemmas.Int.{ints, unsigned_abs-mul}
use Rattle.std.proofs.lemmas.Nat.{mul-le}
use Rattle.std.proofs.lemmas.Nat.Gcd.{dvd-zero}
use Rattle.std.proofs.lemmas.List.{length-map}
use Rattle.std.proofs.lemmas.List.Elements.{recursion_from_All}
use Rattle.std.proofs.lemmas.Option.{none-some, slice_get-get_or}
use Rattle.linear_rows.specs.declared.row.Row.{Row}
use Rattle.linear_rows.specs.declared.step.RowStep.{RowStep}
use Rattle.linear_rows.specs.declared.record.Record.{Record}
use Rattle.linear_rows.specs.declared.stage.Stage.{Stage}
use Rattle.linear_rows.specs.Stage.{first, without_first, mixed, multiplier, cut_of, lowest, is_lower, is_upper, IsSmall, IsWide}
use Rattle.linear_rows.specs.Lines.{lines_of}
use Rattle.linear_rows.specs.Steps.{column_of, multiple, share_of_two, made_of, made, column_by}
use Rattle.linear_rows.specs.Recorded.{same_row, line_number, Says, next_number, IsLineOf, MakesLine, AreLinesOf, GoesOn, Records}
use Rattle.linear_rows.proofs.Making.{makes}
use Rattle.linear_rows.proofs.Products.{product_commutes}
use Rattle.linear_rows.proofs.Meeting.{length-lowest, length-mixed}
use Rattle.linear_rows.proofs.Lowering.{cut_positive, cut_divides, multipliers_cancel}
use Rattle.linear_rows.proofs.Columns.{column_pushed, column_length, slice_get_front, slice_get_pushed, sum_made, share_divided}
use Rattle.linear_rows.proofs.Valuing.{then_some}

-- what holds of 0 and of a line's numbers holds of its number in a column
number_has_at : (P : ℤ → Type 0) (cs : List ℤ) (column : ℕ) (b : ℤ) → P b → AllByRecursion P cs → P (get_or cs column b)
number_has_at P [] column b here all = here
number_has_at P (c ∷ cs) zero b here all = all.0
number_has_at P (c ∷ cs) (suc column) b here all = number_has_at P cs column b here all.1

pub number_has : (P : ℤ → Type 0) (k column : ℕ) (line : List ℤ) → P (pos 0) → AllByRecursion P line → P (line_number k column line)
number_has P k column [] none all = none
number_has P zero column (b ∷ cs) none all = number_has_at P cs column b all.0 all.1
number_has P (suc k) zero (b ∷ cs) none all = none
number_has P (suc k) (suc column) (b ∷ cs) none all = number_has P k column (b ∷ cs) none all

-- a number of a line that is changed number by number
number_changed_at : (f : ℤ → ℤ) (cs : List ℤ) (column : ℕ) (b : ℤ) → get_or (map f cs) column (f b) ≡ f (get_or cs column b)
number_changed_at f [] column b = refl
number_changed_at f (c ∷ cs) zero b = refl
number_changed_at f (c ∷ cs) (suc column) b = number_changed_at f cs column b

number_changed : (f : ℤ → ℤ) (k column : ℕ) (line : List ℤ) → f (pos 0) ≡ pos 0 → line_number k column (map f line) ≡ f (line_number k column line)
number_changed f k column [] none = sym none
number_changed f zero column (b ∷ cs) none = number_changed_at f cs column b
number_changed f (suc k) zero (b ∷ cs) none = sym none
number_changed f (suc k) (suc column) (b ∷ cs) none = number_changed f k column (b ∷ cs) none

-- a number of a sum of two lines
number_mixed_at : (a b : ℤ) (xs ys : List ℤ) (column : ℕ) (x y : ℤ) → length xs ≡ length ys →
    get_or (mixed a xs b ys) column ((a *ℤ x) +ℤ (b *ℤ y)) ≡ (a *ℤ get_or xs column x) +ℤ (b *ℤ get_or ys column y)
number_mixed_at a b [] [] column x y e = refl
number_mixed_at a b [] (d ∷ ys) column x y e = absurd (omega arith)
number_mixed_at a b (c ∷ xs) [] column x y e = absurd (omega arith)
number_mixed_at a b (c ∷ xs) (d ∷ ys) zero x y e = refl
number_mixed_at a b (c ∷ xs) (d ∷ ys) (suc column) x y e = number_mixed_at a b xs ys column x y (omega arith)

number_mixed : (a b : ℤ) (k column : ℕ) (p q : List ℤ) → length p ≡ length q → line_number k column (mixed a p b q) ≡ (a *ℤ line_number k column p) +ℤ (b *ℤ line_number k column q)
number_mixed a b k column [] [] e = omega (arith, ints, product_commutes a (pos 0), product_commutes b (pos 0))
number_mixed a b k column [] (y ∷ q) e = absurd (omega arith)
number_mixed a b k column (x ∷ p) [] e = absurd (omega arith)
number_mixed a b zero column (x ∷ p) (y ∷ q) e = number_mixed_at a b p q column x y (omega arith)
number_mixed a b (suc k) zero (x ∷ p) (y ∷ q) e = omega (arith, ints, product_commutes a (pos 0), product_commutes b (pos 0))
number_mixed a b (suc k) (suc column) (x ∷ p) (y ∷ q) e = number_mixed a b k column (x ∷ p) (y ∷ q) e

-- a coefficient of 0 is that of one more variable that is eliminated
number_eliminated : (k column : ℕ) (b : ℤ) (cs : List ℤ) → line_number k column (b ∷ pos 0 ∷ cs) ≡ line_number (suc k) column (b ∷ cs)
number_eliminated zero zero b cs = refl
number_eliminated zero (suc column) b cs = refl
number_eliminated (suc k) zero b cs = refl
number_eliminated (suc k) (suc column) b cs = number_eliminated k column b cs

pub says_eliminated : (n k : ℕ) (numbers : ℕ → Option ℤ) (line : List ℤ) → k < n → first line ≡ pos 0 → Says n k numbers line → Says n (suc k) numbers (without_first line)
says_eliminated n k numbers [] lt none says = let e = says.count in absurd (omega arith)
says_eliminated n k numbers (b ∷ []) lt none says = let e = says.count in absurd (omega arith)
says_eliminated n k numbers (b ∷ a ∷ cs) lt none says = record {
  count = (let e = says.count in omega arith);
  each = λ column le. says.each column le ∙ ap Some (ap (λ z. line_number k column (b ∷ z ∷ cs)) none ∙ number_eliminated k column b cs);
}

-- ---- the record
pub records_same : (n k : ℕ) (rows : List Row) (r : Record) (s : Stage) → Records n k rows r s r s
records_same n k rows r s given all = (record { given = refl; stay = λ k number line is. is }, all)

pub goes_on_then : (n : ℕ) (rows : List Row) (r0 r1 r2 : Record) → GoesOn n rows r0 r1 → GoesOn n rows r1 r2 → GoesOn n rows r0 r2
goes_on_then n rows r0 r1 r2 a b = record { given = b.given ∙ a.given; stay = λ k number line is. b.stay k number line (a.stay k number line is) }

pub records_then : (n k : ℕ) (rows : List Row) (r0 r1 r2 : Record) (s0 s1 s2 : Stage) → Records n k rows r0 s0 r1 s1 → (GoesOn n rows r0 r1 → Records n k rows r1 s1 r2 s2) → Records n k rows r0 s0 r2 s2
records_then n k rows r0 r1 r2 s0 s1 s2 before after given all =
    let first = before given all in
    let second = after first.0 (first.0.given ∙ given) first.1 in
    (goes_on_then n rows r0 r1 r2 first.0 second.0, second.1)

-- lines that are there stay
pub lines_stay : (n k : ℕ) (rows : List Row) (old new : Record) (numbers : List ℕ) (lines : List (List ℤ)) → GoesOn n rows old new → AreLinesOf n k rows old numbers lines → AreLinesOf n k rows new numbers lines
lines_stay n k rows old new [] [] goes all = tt
lines_stay n k rows old new [] (line ∷ lines) goes all = absurd all
lines_stay n k rows old new (number ∷ numbers) [] goes all = absurd all
lines_stay n k rows old new (number ∷ numbers) (line ∷ lines) goes all = (goes.stay k number line all.0, lines_stay n k rows old new numbers lines goes all.1)

lines_pushed : (n k : ℕ) (rows : List Row) (r : Record) (numbers : List ℕ) (lines : List (List ℤ)) (number : ℕ) (line : List ℤ) → AreLinesOf n k rows r numbers lines → IsLineOf n k rows r number line →
    AreLinesOf n k rows r (numbers ++ number ∷ []) (lines ++ line ∷ [])
lines_pushed n k rows r [] [] number line all is = (is, tt)
lines_pushed n k rows r [] (x ∷ lines) number line all is = absurd all
lines_pushed n k rows r (x ∷ numbers) [] number line all is = absurd all
lines_pushed n k rows r (x ∷ numbers) (y ∷ lines) number line all is = (all.0, lines_pushed n k rows r numbers lines number line all.1 is)

-- a line that was added with the number of its row
pub records_added : (n k : ℕ) (rows : List Row) (old new : Record) (stage next : Stage) (number : ℕ) (line : List ℤ) → lines_of next ≡ lines_of stage ++ line ∷ [] →
    next.numbers.items ≡ stage.numbers.items ++ number ∷ [] → (old.given ≡ length rows → GoesOn n rows old new × IsLineOf n k rows new number line) → Records n k rows old stage new next
records_added n k rows old new stage next number line lines_is numbers_is made given all =
    let both = made given in
    let whole = lines_pushed n k rows new stage.numbers.items (lines_of stage) number line (lines_stay n k rows old new stage.numbers.items (lines_of stage) both.0 all) both.1 in (
      both.0,
      subst (λ (l : List (List ℤ)). AreLinesOf n k rows new next.numbers.items l) (sym lines_is)
          (subst (λ (l : List ℕ). AreLinesOf n k rows new l (lines_of stage ++ line ∷ [])) (sym numbers_is) whole),
    )

-- ---- a step that is recorded
pub step_recorded : (n k : ℕ) (rows : List Row) (old new : Record) (step : RowStep) (number : ℕ) (line : List ℤ) → new.given ≡ old.given → new.steps.items ≡ old.steps.items ++ step ∷ [] →
    number ≡ old.given + length old.steps.items → old.given ≡ length rows → MakesLine n k rows old step line → GoesOn n rows old new × IsLineOf n k rows new number line
step_recorded n k rows old new step number line given_is steps_is number_is given says =
    let steps = old.steps.items in
    let numbers : (j : ℕ) → j ≤ n → (all : List ℤ) × (column_by (column_of rows j) steps ≡ Some all) × (column_by (column_of rows j) new.steps.items ≡ Some (all ++ line_number k j line ∷ [])) =
    λ j le. (let (all, all_is, made_is) = then_some (λ all. made step all) (column_by (column_of rows j) steps) (line_number k j line) (says.each j le) in
    (all, all_is, ap (column_by (column_of rows j)) steps_is ∙ column_pushed steps step (column_of rows j) all (line_number k j line) all_is made_is)) in (
      record {
        given = given_is;
        stay = λ i other l is. record {
          count = is.count;
          each = λ j le. (let (all, all_is, pushed) = numbers j le in
              let here : slice_get all other ≡ Some (line_number i j l) = sym (ap (option_and_then (λ all. slice_get all other)) all_is) ∙ is.each j le in
              ap (option_and_then (λ all. slice_get all other)) pushed ∙ slice_get_front all (line_number k j line ∷ []) other (line_number i j l) here);
        };
      },
      record {
        count = says.count;
        each = λ j le. (let (all, all_is, pushed) = numbers j le in
            let count : length all ≡ length (column_of rows j) + length steps = column_length steps (column_of rows j) all all_is in
            let rows_count : length (column_of rows j) ≡ length rows = length-map rows _ in
            let at : number ≡ length all = omega arith in
            ap (option_and_then (λ all. slice_get all number)) pushed ∙ ap (slice_get (all ++ line_number k j line ∷ [])) at ∙ slice_get_pushed all (line_number k j line));
      },
    )

one_times : (z : ℤ) → pos 1 *ℤ z ≡ z
one_times z = omega (arith, ints)

-- a step that changes nothing makes the row that it takes
same_made : (step : RowStep) (all : List ℤ) (z : ℤ) → step.by ≡ 1 → step.times ≡ 0 → step.cut ≡ 1 → made step all ≡ Some z → slice_get all step.first ≡ Some z
same_made step all z by times cut is =
    let m = makes step all z is in
    let a = get_or all step.first (pos 0) in
    let b = get_or all step.second (pos 0) in
    let left : pos step.cut *ℤ z ≡ z = ap (λ c. pos c *ℤ z) cut ∙ one_times z in
    let right : pos step.by *ℤ a ≡ a = ap (λ c. pos c *ℤ a) by ∙ one_times a in
    let none : pos step.times *ℤ b ≡ pos 0 = ap (λ c. pos c *ℤ b) times ∙ product_commutes (pos 0) b ∙ omega (arith, ints, product_commutes b (pos 0)) in
    let exact = m.exact in
    let same : a ≡ z = omega (arith, ints) in
    slice_get-get_or all step.first (pos 0) m.first ∙ ap Some same

pub step_unrecorded : (n k : ℕ) (rows : List Row) (r : Record) (step : RowStep) (line : List ℤ) → step.by ≡ 1 → step.times ≡ 0 → step.cut ≡ 1 → MakesLine n k rows r step line →
    GoesOn n rows r r × IsLineOf n k rows r step.first line
step_unrecorded n k rows r step line by times cut says = (
  record { given = refl; stay = λ k number line is. is },
  record {
    count = says.count;
    each = λ j le. (let (all, all_is, made_is) = then_some (λ all. made step all) (column_by (column_of rows j) r.steps.items) (line_number k j line) (says.each j le) in
        ap (option_and_then (λ all. slice_get all step.first)) all_is ∙ same_made step all (line_number k j line) by times cut made_is);
  },
)

-- ---- a step and the division that brings its line to lowest terms
made_divided : (x y : Option ℤ) (first by second times cut : ℕ) (z : ℤ) → 0 < cut → cut ∣ unsigned_abs z → unsigned_abs z ≤ 2 ^ 126 →
    made_of (record { first = first; by = by; second = second; times = times; cut = 1 }) x y ≡ Some z →
    made_of (record { first = first; by = by; second = second; times = times; cut = cut }) x y ≡ Some (int_div z (pos cut))
made_divided (Some a) (Some b) first by second times cut z positive divides small is = share_divided (multiple by a) (multiple times b) cut z positive divides small is
made_divided None (Some b) first by second times cut z positive divides small is = absurd (none-some z is)
made_divided (Some a) None first by second times cut z positive divides small is = absurd (none-some z is)
made_divided None None first by second times cut z positive divides small is = absurd (none-some z is)

none_divided : (cut : ℕ) → int_div (pos 0) (pos cut) ≡ pos 0
none_divided cut = ap pos (omega arith)

pub step_divided : (n k : ℕ) (rows : List Row) (r : Record) (first by second times : ℕ) (line : List ℤ) → IsWide line →
    MakesLine n k rows r (record { first = first; by = by; second = second; times = times; cut = 1 }) line →
    MakesLine n k rows r (record { first = first; by = by; second = second; times = times; cut = cut_of line }) (lowest line)
step_divided n k rows r first by second times line wide says = record {
  count = ap (λ m. k + m) (length-lowest line) ∙ says.count;
  each = λ j le. (let z = line_number k j line in
      let step : RowStep = record { first = first; by = by; second = second; times = times; cut = 1 } in
      let cut_step : RowStep = record { first = first; by = by; second = second; times = times; cut = cut_of line } in
      let (all, all_is, made_is) = then_some (λ all. made step all) (column_by (column_of rows j) r.steps.items) z (says.each j le) in
      let divides : cut_of line ∣ unsigned_abs z = number_has (λ y. cut_of line ∣ unsigned_abs y) k j line (dvd-zero (cut_of line)) (cut_divides line) in
      let small : unsigned_abs z ≤ 2 ^ 126 = number_has (λ y. unsigned_abs y ≤ 2 ^ 126) k j line (omega arith) (recursion_from_All (λ y. unsigned_abs y ≤ 2 ^ 126) line wide) in
      ap (option_and_then (λ all. made cut_step all)) all_is
      ∙ made_divided (slice_get all first) (slice_get all second) first by second times (cut_of line) z (cut_positive line) divides small made_is
      ∙ ap Some (sym (number_changed (λ y. int_div y (pos (cut_of line))) k j line (none_divided (cut_of line)))));
}

-- ---- the steps that the lines are made by
small_number : (k column : ℕ) (line : List ℤ) → IsSmall line → unsigned_abs (line_number k column line) ≤ 2 ^ 62
small_number k column line small = number_has (λ y. unsigned_abs y ≤ 2 ^ 62) k column line (omega arith) (recursion_from_All (λ y. unsigned_abs y ≤ 2 ^ 62) line small)

multiple_small : (by : ℕ) (z : ℤ) → by ≤ 2 ^ 62 → unsigned_abs z ≤ 2 ^ 62 → unsigned_abs (pos by *ℤ z) ≤ 2 ^ 124
multiple_small by z p q =
    let e = unsigned_abs-mul (pos by) z in
    let le = mul-le by (unsigned_abs z) (2 ^ 62) (2 ^ 62) p q in
    omega arith

sum_small : (x y : ℤ) → unsigned_abs x ≤ 2 ^ 124 → unsigned_abs y ≤ 2 ^ 124 → unsigned_abs (x +ℤ y) ≤ 2 ^ 126
sum_small x y p q = omega (arith, ints)

-- a sum of two rows
pub sum_made_of : (by times : ℕ) (a b : ℤ) → by ≤ 2 ^ 62 → times ≤ 2 ^ 62 → unsigned_abs a ≤ 2 ^ 62 → unsigned_abs b ≤ 2 ^ 62 →
    share_of_two (multiple by a) (multiple times b) 1 ≡ Some ((pos by *ℤ a) +ℤ (pos times *ℤ b))
sum_made_of by times a b by_small times_small a_small b_small =
    let x = multiple_small by a by_small a_small in
    let y = multiple_small times b times_small b_small in
    sum_made by times a b ((pos by *ℤ a) +ℤ (pos times *ℤ b)) (omega arith) (omega arith) refl (sum_small (pos by *ℤ a) (pos times *ℤ b) x y)

pub mixed_makes : (n k : ℕ) (rows : List Row) (r : Record) (number by other times : ℕ) (p q : List ℤ) → by ≤ 2 ^ 62 → times ≤ 2 ^ 62 → IsSmall p → IsSmall q →
    IsLineOf n k rows r number p → IsLineOf n k rows r other q →
    MakesLine n k rows r (record { first = number; by = by; second = other; times = times; cut = 1 }) (mixed (pos by) p (pos times) q)
mixed_makes n k rows r number by other times p q by_small times_small p_small q_small first second =
    let same : length p ≡ length q = (let a = first.count in let b = second.count in omega arith) in
    record {
      count = ap (λ m. k + m) (length-mixed (pos by) (pos times) p q same) ∙ first.count;
      each = λ j le. (let step : RowStep = record { first = number; by = by; second = other; times = times; cut = 1 } in
          let a = line_number k j p in
          let b = line_number k j q in
          let (all, all_is, a_is) = then_some (λ all. slice_get all number) (column_by (column_of rows j) r.steps.items) a (first.each j le) in
          let b_is : slice_get all other ≡ Some b = sym (ap (option_and_then (λ all. slice_get all other)) all_is) ∙ second.each j le in
          ap (option_and_then (λ all. made step all)) all_is
          ∙ (λ i. made_of step (a_is i) (b_is i))
          ∙ sum_made_of by times a b by_small times_small (small_number k j p p_small) (small_number k j q q_small)
          ∙ ap Some (sym (number_mixed (pos by) (pos times) k j p q same)));
    }

-- a row as it is
pub same_makes : (n k : ℕ) (rows : List Row) (r : Record) (number : ℕ) (line : List ℤ) → IsSmall line → IsLineOf n k rows r number line → MakesLine n k rows r (same_row number) line
same_makes n k rows r number line small is = record {
  count = is.count;
  each = λ j le. (let z = line_number k j line in
      let le' = small_number k j line small in
      let (all, all_is, z_is) = then_some (λ all. slice_get all number) (column_by (column_of rows j) r.steps.items) z (is.each j le) in
      let none : pos 0 *ℤ z ≡ pos 0 = product_commutes (pos 0) z ∙ omega (arith, ints, product_commutes z (pos 0)) in
      let sum : (pos 1 *ℤ z) +ℤ (pos 0 *ℤ z) ≡ z = omega (arith, ints, one_times z) in
      ap (option_and_then (λ all. made (same_row number) all)) all_is
      ∙ (λ i. made_of (same_row number) (z_is i) (z_is i))
      ∙ sum_made_of 1 0 z z (omega arith) (omega arith) le' le'
      ∙ ap Some sum);
}

by_test : (a b : ℤ) → int_lt a b ≡ true → a <ℤ b
by_test a b test = grind (arith, ints)

-- the sum of a lower and an upper bound that cancels the variable
first_mixed : (a b : ℤ) (p q : List ℤ) → 2 ≤ length p → 2 ≤ length q → first (mixed a p b q) ≡ (a *ℤ first p) +ℤ (b *ℤ first q)
first_mixed a b [] q p_long q_long = absurd (omega arith)
first_mixed a b (x ∷ []) q p_long q_long = absurd (omega arith)
first_mixed a b (x ∷ x' ∷ p) [] p_long q_long = absurd (omega arith)
first_mixed a b (x ∷ x' ∷ p) (y ∷ []) p_long q_long = absurd (omega arith)
first_mixed a b (x ∷ x' ∷ p) (y ∷ y' ∷ q) p_long q_long = refl

pub sum_makes : (n k : ℕ) (rows : List Row) (r : Record) (number by other times : ℕ) (p q items : List ℤ) → k < n → by ≤ 2 ^ 62 → times ≤ 2 ^ 62 → IsSmall p → IsSmall q →
    is_lower p ≡ true → is_upper q ≡ true → by ≡ multiplier (first q) (first p) → times ≡ multiplier (first p) (first q) → items ≡ without_first (mixed (pos by) p (pos times) q) →
    IsLineOf n k rows r number p → IsLineOf n k rows r other q →
    MakesLine n (suc k) rows r (record { first = number; by = by; second = other; times = times; cut = 1 }) items
sum_makes n k rows r number by other times p q items lt by_small times_small p_small q_small lower upper by_is times_is items_is one two =
    let step : RowStep = record { first = number; by = by; second = other; times = times; cut = 1 } in
    let sum = mixed (pos by) p (pos times) q in
    let p_long : 2 ≤ length p = (let e = one.count in omega arith) in
    let q_long : 2 ≤ length q = (let e = two.count in omega arith) in
    let cancel = (multipliers_cancel (first q) (first p) (by_test (pos 0) (first q) upper) (by_test (first p) (pos 0) lower)).none in
    let none : first sum ≡ pos 0 =
    first_mixed (pos by) (pos times) p q p_long q_long
    ∙ ap (λ m. (pos m *ℤ first p) +ℤ (pos times *ℤ first q)) by_is
    ∙ ap (λ m. (pos (multiplier (first q) (first p)) *ℤ first p) +ℤ (pos m *ℤ first q)) times_is
    ∙ cancel in
    let made = says_eliminated n k (next_number rows r.steps.items step) sum lt none (mixed_makes n k rows r number by other times p q by_small times_small p_small q_small one two) in
    subst (MakesLine n (suc k) rows r step) (sym items_is) made
