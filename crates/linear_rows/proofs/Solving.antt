-- The value that a stage gives its first variable meets each line of the stage, where the values of the others
-- meet the next stage.
use Rattle.std.proofs.Common.{◌≡◌, ℕ, zero, suc, ℤ, pos, negsuc, ◌*ℤ◌, ◌<ℤ◌, List, [], ◌∷◌, map, true, Option, Some, None, arith, refl, subst, ⊎_elim, ◌⊎◌, inl, inr}
use Rattle.std.specs.Prelude.{int_lt}
use Rattle.std.specs.Ordering.{int_eq}
use Rattle.std.specs.List.{filter, AllByRecursion, AllZip}
use Rattle.std.proofs.lemmas.Int.{ints}
use Rattle.std.proofs.lemmas.Option.{none-some, same_Some}
use Rattle.std.proofs.lemmas.Bool.{lt-ltb}
use Rattle.std.proofs.lemmas.Bool.Decides.{nat_tests}
use Rattle.linear_rows.specs.declared.fraction.Fraction.{Fraction}
use Rattle.linear_rows.specs.Divisor.{divisor}
use Rattle.linear_rows.specs.Fractions.{whole, is_less}
use Rattle.linear_rows.specs.Stage.{first, without_first, cancelled, multiplier, is_lower, is_upper, kept_lines, cancelled_lines, sums_of}
use Rattle.linear_rows.specs.Elimination.{bound_on, best_lower, best_upper, or_zero, value_by, value}
use Rattle.linear_rows.specs.Solution.{IsInLowestTerms}
use Rattle.linear_rows.proofs.Crosswise.{within_upper, within_lower, within_cancelled}
use Rattle.linear_rows.proofs.Lowering.{multipliers_cancel}
use Rattle.linear_rows.proofs.Each.{each_weaker, each_both, each_from_map, each_filter, each_from_filter, each_from_flat_map}
use Rattle.linear_rows.proofs.Meeting.{IsMetAt, HasLength, room, sum_room, room_met, kept_met}
use Rattle.linear_rows.proofs.Valuing.{IsValue, IsPositive, bound_worth, then_some}
use Rattle.linear_rows.proofs.Best.{best_has, none_best, best_least, IsAtLeast, IsAtMost, lower_better, lower_not, least_itself, lower_through, upper_through}

by_test : (a b : ℤ) → int_lt a b ≡ true → a <ℤ b
by_test a b test = grind (arith, ints)

is_zero : (a : ℤ) → int_eq a (pos 0) ≡ true → a ≡ pos 0
is_zero a h = grind (arith, nat_tests)

below_not_zero : (a : ℤ) → a <ℤ pos 0 → a ≡ pos 0 → ⊥
below_not_zero a lt e = omega (arith, ints)

above_not_zero : (a : ℤ) → pos 0 <ℤ a → a ≡ pos 0 → ⊥
above_not_zero a lt e = omega (arith, ints)

-- a number is below 0, above 0 or 0
by_sign : (a : ℤ) → (int_lt a (pos 0) ≡ true) ⊎ ((int_lt (pos 0) a ≡ true) ⊎ (int_eq a (pos 0) ≡ true))
by_sign (negsuc n) = inl refl
by_sign (pos zero) = inr (inr refl)
by_sign (pos (suc n)) = inr (inl (lt-ltb 0 (suc n) (omega arith)))

module _ (d : ℤ) (zs : List ℤ) (xs : List Fraction) (d_positive : pos 0 <ℤ d) (positive : AllByRecursion IsPositive xs) (values : AllZip (IsValue d) zs xs) where
  -- a line is met with this value of the first variable
  abbrev pub IsMetWith : Fraction → List ℤ → Type 0
  IsMetWith x line = IsMetAt (d *ℤ x.under) ((x.over *ℤ d) ∷ map (λ z. x.under *ℤ z) zs) line

  -- each bound of a line is in lowest terms
  lower_lowest : (n : ℕ) (line : List ℤ) → HasLength (suc (suc n)) line → is_lower line ≡ true → (y : Fraction) → bound_on xs line ≡ Some y → IsInLowestTerms y
  lower_lowest n [] long test y is = absurd (omega arith)
  lower_lowest n (b ∷ []) long test y is = absurd (omega arith)
  lower_lowest n (b ∷ a ∷ cs) long test y is = (bound_worth d b a cs xs zs y positive values (below_not_zero a (by_test a (pos 0) test)) is).lowest

  upper_lowest : (n : ℕ) (line : List ℤ) → HasLength (suc (suc n)) line → is_upper line ≡ true → (y : Fraction) → bound_on xs line ≡ Some y → IsInLowestTerms y
  upper_lowest n [] long test y is = absurd (omega arith)
  upper_lowest n (b ∷ []) long test y is = absurd (omega arith)
  upper_lowest n (b ∷ a ∷ cs) long test y is = (bound_worth d b a cs xs zs y positive values (above_not_zero a (by_test (pos 0) a test)) is).lowest

  -- a value that is at least a lower bound, or at most an upper bound, meets the line
  lower_met : (n : ℕ) (x : Fraction) (line : List ℤ) → HasLength (suc (suc n)) line → is_lower line ≡ true → (y : Fraction) × (bound_on xs line ≡ Some y) × IsAtLeast x y → IsMetWith x line
  lower_met n x [] long test h = absurd (omega arith)
  lower_met n x (b ∷ []) long test h = absurd (omega arith)
  lower_met n x (b ∷ a ∷ cs) long test h =
      let (y, y_is, least) = h in
      let negative : a <ℤ pos 0 = by_test a (pos 0) test in
      let worth = bound_worth d b a cs xs zs y positive values (below_not_zero a negative) y_is in
      room_met d x.under x.over b a zs cs (within_lower a d (room d zs b cs) x.over x.under y.over y.under worth.lowest.positive d_positive negative worth.value least)

  upper_met : (n : ℕ) (x : Fraction) (line : List ℤ) → HasLength (suc (suc n)) line → is_upper line ≡ true → (y : Fraction) × (bound_on xs line ≡ Some y) × IsAtMost x y → IsMetWith x line
  upper_met n x [] long test h = absurd (omega arith)
  upper_met n x (b ∷ []) long test h = absurd (omega arith)
  upper_met n x (b ∷ a ∷ cs) long test h =
      let (y, y_is, most) = h in
      let above : pos 0 <ℤ a = by_test (pos 0) a test in
      let worth = bound_worth d b a cs xs zs y positive values (above_not_zero a above) y_is in
      room_met d x.under x.over b a zs cs (within_upper a d (room d zs b cs) x.over x.under y.over y.under worth.lowest.positive d_positive above worth.value most)

  -- a value that is a lower bound meets an upper one where their sum is met
  between_met : (n : ℕ) (p q : List ℤ) (y : Fraction) → HasLength (suc (suc n)) p → HasLength (suc (suc n)) q → is_lower p ≡ true → is_upper q ≡ true → bound_on xs p ≡ Some y →
      IsMetAt d zs (cancelled p q) → IsMetWith y q
  between_met n [] q y p_long q_long lower upper is met = absurd (omega arith)
  between_met n (b ∷ []) q y p_long q_long lower upper is met = absurd (omega arith)
  between_met n (b ∷ a ∷ cs) [] y p_long q_long lower upper is met = absurd (omega arith)
  between_met n (b ∷ a ∷ cs) (c ∷ []) y p_long q_long lower upper is met = absurd (omega arith)
  between_met n (b ∷ a ∷ cs) (c ∷ e ∷ es) y p_long q_long lower upper is met =
      let negative : a <ℤ pos 0 = by_test a (pos 0) lower in
      let above : pos 0 <ℤ e = by_test (pos 0) e upper in
      let worth = bound_worth d b a cs xs zs y positive values (below_not_zero a negative) is in
      let cancel = multipliers_cancel e a above negative in
      let some = cancel.some in
      let left = sum_room d (pos (multiplier e a)) (pos (multiplier a e)) zs b cs c es (omega arith) met in
      room_met d y.under y.over c e zs es
      (within_cancelled e a (pos (multiplier e a)) (pos (multiplier a e)) (room d zs c es) (room d zs b cs) d y.over y.under (omega (arith, ints)) worth.lowest.positive cancel.none worth.value left)

  -- a line without the variable is met with any value
  zero_met : (n : ℕ) (x : Fraction) (line : List ℤ) → IsPositive x → HasLength (suc (suc n)) line → int_eq (first line) (pos 0) ≡ true → IsMetAt d zs (without_first line) → IsMetWith x line
  zero_met n x [] x_positive long test met = absurd (omega arith)
  zero_met n x (b ∷ []) x_positive long test met = absurd (omega arith)
  zero_met n x (b ∷ a ∷ cs) x_positive long test met = kept_met d x.under x.over b a zs cs x_positive (is_zero a test) met

  module _ (n : ℕ) (stage : List (List ℤ)) (long : AllByRecursion (HasLength (suc (suc n))) stage) (kept : AllByRecursion (IsMetAt d zs) (kept_lines stage)) (sums : AllByRecursion (IsMetAt d zs) (cancelled_lines stage)) where
    -- what is to be shown of the value
    record Meets (x : Fraction) : Type 0 where
      pub lowest : IsInLowestTerms x
      pub lowers : AllByRecursion (λ line. is_lower line ≡ true → IsMetWith x line) stage
      pub uppers : AllByRecursion (λ line. is_upper line ≡ true → IsMetWith x line) stage

    lower_lines : AllByRecursion (λ line. (y : Fraction) → bound_on xs line ≡ Some y → IsInLowestTerms y) (filter is_lower stage)
    lower_lines =
        each_filter (λ line. (y : Fraction) → bound_on xs line ≡ Some y → IsInLowestTerms y) is_lower stage
        (each_weaker (HasLength (suc (suc n))) (λ line. is_lower line ≡ true → (y : Fraction) → bound_on xs line ≡ Some y → IsInLowestTerms y) (λ line. lower_lowest n line) stage long)

    upper_lines : AllByRecursion (λ line. (y : Fraction) → bound_on xs line ≡ Some y → IsInLowestTerms y) (filter is_upper stage)
    upper_lines =
        each_filter (λ line. (y : Fraction) → bound_on xs line ≡ Some y → IsInLowestTerms y) is_upper stage
        (each_weaker (HasLength (suc (suc n))) (λ line. is_upper line ≡ true → (y : Fraction) → bound_on xs line ≡ Some y → IsInLowestTerms y) (λ line. upper_lowest n line) stage long)

    positive_lines : (lines : List (List ℤ)) → AllByRecursion (λ line. (y : Fraction) → bound_on xs line ≡ Some y → IsInLowestTerms y) lines →
        AllByRecursion (λ line. (y : Fraction) → bound_on xs line ≡ Some y → IsPositive y) lines
    positive_lines lines all =
        each_weaker (λ line. (y : Fraction) → bound_on xs line ≡ Some y → IsInLowestTerms y) (λ line. (y : Fraction) → bound_on xs line ≡ Some y → IsPositive y)
        (λ line f y e. (f y e).positive) lines all

    -- the sums of a lower bound are met
    sums_met : AllByRecursion (λ p. is_lower p ≡ true → AllByRecursion (λ q. is_upper q ≡ true → IsMetAt d zs (cancelled p q)) stage) stage
    sums_met =
        each_from_filter (λ p. AllByRecursion (λ q. is_upper q ≡ true → IsMetAt d zs (cancelled p q)) stage) is_lower stage
        (each_weaker (λ p. AllByRecursion (IsMetAt d zs) (sums_of p stage)) (λ p. AllByRecursion (λ q. is_upper q ≡ true → IsMetAt d zs (cancelled p q)) stage)
        (λ p all. each_from_filter (λ q. IsMetAt d zs (cancelled p q)) is_upper stage (each_from_map (IsMetAt d zs) (cancelled p) (filter is_upper stage) all))
        (filter is_lower stage) (each_from_flat_map (IsMetAt d zs) (λ p. sums_of p stage) (filter is_lower stage) sums))

    -- so each lower bound meets the upper ones
    uppers_by : (p : List ℤ) → HasLength (suc (suc n)) p → is_lower p ≡ true → AllByRecursion (λ q. is_upper q ≡ true → IsMetAt d zs (cancelled p q)) stage →
        (y : Fraction) → bound_on xs p ≡ Some y → AllByRecursion (λ q. is_upper q ≡ true → IsMetWith y q) stage
    uppers_by p p_long lower all y is =
        each_both (HasLength (suc (suc n))) (λ q. is_upper q ≡ true → IsMetAt d zs (cancelled p q)) (λ q. is_upper q ≡ true → IsMetWith y q)
        (λ q q_long met upper. between_met n p q y p_long q_long lower upper is (met upper)) stage long all

    uppers_of_lowers : AllByRecursion (λ p. (y : Fraction) → bound_on xs p ≡ Some y → AllByRecursion (λ q. is_upper q ≡ true → IsMetWith y q) stage) (filter is_lower stage)
    uppers_of_lowers =
        each_filter (λ p. (y : Fraction) → bound_on xs p ≡ Some y → AllByRecursion (λ q. is_upper q ≡ true → IsMetWith y q) stage) is_lower stage
        (each_both (HasLength (suc (suc n))) (λ p. is_lower p ≡ true → AllByRecursion (λ q. is_upper q ≡ true → IsMetAt d zs (cancelled p q)) stage)
        (λ p. is_lower p ≡ true → (y : Fraction) → bound_on xs p ≡ Some y → AllByRecursion (λ q. is_upper q ≡ true → IsMetWith y q) stage)
        (λ p p_long all lower. uppers_by p p_long lower (all lower)) stage long sums_met)

    -- the greatest lower bound
    greatest_meets : (x : Fraction) → best_lower xs None stage ≡ Some (Some x) → Meets x
    greatest_meets x is = record {
      lowest = best_has is_less xs IsInLowestTerms (filter is_lower stage) None x is (λ b e. absurd (none-some b e)) lower_lines;
      lowers =
          each_both (HasLength (suc (suc n))) (λ line. is_lower line ≡ true → (y : Fraction) × (bound_on xs line ≡ Some y) × IsAtLeast x y) (λ line. is_lower line ≡ true → IsMetWith x line)
          (λ line line_long h lower. lower_met n x line line_long lower (h lower)) stage long
          (each_from_filter (λ line. (y : Fraction) × (bound_on xs line ≡ Some y) × IsAtLeast x y) is_lower stage
          (best_least is_less xs IsAtLeast lower_better lower_not least_itself lower_through (filter is_lower stage) None x is (λ b e. absurd (none-some b e))
          (positive_lines (filter is_lower stage) lower_lines)).1);
      uppers = best_has is_less xs (λ y. AllByRecursion (λ q. is_upper q ≡ true → IsMetWith y q) stage) (filter is_lower stage) None x is (λ b e. absurd (none-some b e)) uppers_of_lowers;
    }

    -- no lower bound is no line to meet
    no_lowers : (x : Fraction) → best_lower xs None stage ≡ Some None → AllByRecursion (λ line. is_lower line ≡ true → IsMetWith x line) stage
    no_lowers x is =
        each_weaker (λ line. is_lower line ≡ true → ⊥) (λ line. is_lower line ≡ true → IsMetWith x line) (λ line none lower. absurd (none lower)) stage
        (each_from_filter (λ line. ⊥) is_lower stage (none_best is_less xs (filter is_lower stage) is))

    -- the least upper bound
    least_meets : (x : Fraction) → best_lower xs None stage ≡ Some None → best_upper xs None stage ≡ Some (Some x) → Meets x
    least_meets x none is = record {
      lowest = best_has (λ a b. is_less b a) xs IsInLowestTerms (filter is_upper stage) None x is (λ b e. absurd (none-some b e)) upper_lines;
      lowers = no_lowers x none;
      uppers =
          each_both (HasLength (suc (suc n))) (λ line. is_upper line ≡ true → (y : Fraction) × (bound_on xs line ≡ Some y) × IsAtMost x y) (λ line. is_upper line ≡ true → IsMetWith x line)
          (λ line line_long h upper. upper_met n x line line_long upper (h upper)) stage long
          (each_from_filter (λ line. (y : Fraction) × (bound_on xs line ≡ Some y) × IsAtMost x y) is_upper stage
          (best_least (λ a b. is_less b a) xs IsAtMost (λ a b e. lower_better b a e) (λ a b e. lower_not b a e) least_itself upper_through (filter is_upper stage) None x is (λ b e. absurd (none-some b e))
          (positive_lines (filter is_upper stage) upper_lines)).1);
    }

    -- 0, where nothing bounds it
    zero_lowest : IsInLowestTerms (whole (pos 0))
    unfolding divisor
    zero_lowest = record { positive = omega (arith, ints); lowest = refl }

    zero_meets : best_lower xs None stage ≡ Some None → best_upper xs None stage ≡ Some None → Meets (whole (pos 0))
    zero_meets none is = record {
      lowest = zero_lowest;
      lowers = no_lowers (whole (pos 0)) none;
      uppers =
          each_weaker (λ line. is_upper line ≡ true → ⊥) (λ line. is_upper line ≡ true → IsMetWith (whole (pos 0)) line) (λ line none upper. absurd (none upper)) stage
          (each_from_filter (λ line. ⊥) is_upper stage (none_best (λ a b. is_less b a) xs (filter is_upper stage) is));
    }

    upper_or_zero : (r : Option Fraction) (x : Fraction) → best_lower xs None stage ≡ Some None → best_upper xs None stage ≡ Some r → or_zero r ≡ x → Meets x
    upper_or_zero (Some y) x none is same = subst Meets same (least_meets y none is)
    upper_or_zero None x none is same = subst Meets same (zero_meets none is)

    value_by_meets : (r : Option Fraction) (x : Fraction) → best_lower xs None stage ≡ Some r → value_by stage xs r ≡ Some x → Meets x
    value_by_meets (Some y) x is same = subst Meets (same_Some y x same) (greatest_meets y is)
    value_by_meets None x is after =
        let (r, r_is, same) = then_some (λ y. Some (or_zero y)) (best_upper xs None stage) x after in
        upper_or_zero r x is r_is (same_Some (or_zero r) x same)

    value_meets : (x : Fraction) → value stage xs ≡ Some x → Meets x
    value_meets x is =
        let (r, r_is, after) = then_some (value_by stage xs) (best_lower xs None stage) x is in
        value_by_meets r x r_is after

    kept_met_with : (x : Fraction) → IsPositive x → AllByRecursion (λ line. int_eq (first line) (pos 0) ≡ true → IsMetWith x line) stage
    kept_met_with x x_positive =
        each_both (HasLength (suc (suc n))) (λ line. int_eq (first line) (pos 0) ≡ true → IsMetAt d zs (without_first line)) (λ line. int_eq (first line) (pos 0) ≡ true → IsMetWith x line)
        (λ line line_long met test. zero_met n x line x_positive line_long test (met test)) stage long
        (each_from_filter (λ line. IsMetAt d zs (without_first line)) (λ line. int_eq (first line) (pos 0)) stage
        (each_from_map (IsMetAt d zs) without_first (filter (λ line. int_eq (first line) (pos 0)) stage) kept))

    -- each line is of one of the three kinds
    pub stage_met : (x : Fraction) → value stage xs ≡ Some x → IsInLowestTerms x × AllByRecursion (IsMetWith x) stage
    stage_met x is =
        let all = value_meets x is in (
          all.lowest,
          each_both (λ line. is_lower line ≡ true → IsMetWith x line) (λ line. (is_upper line ≡ true → IsMetWith x line) × (int_eq (first line) (pos 0) ≡ true → IsMetWith x line)) (IsMetWith x)
              (λ line lower others. ⊎_elim lower (λ more. ⊎_elim others.0 others.1 more) (by_sign (first line))) stage all.lowers
              (each_both (λ line. is_upper line ≡ true → IsMetWith x line) (λ line. int_eq (first line) (pos 0) ≡ true → IsMetWith x line)
              (λ line. (is_upper line ≡ true → IsMetWith x line) × (int_eq (first line) (pos 0) ≡ true → IsMetWith x line)) (λ line upper zero. (upper, zero)) stage all.uppers (kept_met_with x all.lowest.positive)),
        )
