-- The best of the bounds that lines set: it is one of them, it is at least as good as each, and there is none
-- only where there is no line.
use Rattle.std.proofs.Common.{◌≡◌, ℤ, ◌*ℤ◌, ◌≤ℤ◌, ◌<ℤ◌, List, [], ◌∷◌, Bool, true, false, Option, Some, None, arith, refl, sym, ◌∙◌, subst}
use Rattle.std.specs.Prelude.{int_lt}
use Rattle.std.specs.List.{AllByRecursion}
use Rattle.std.proofs.lemmas.Int.{ints}
use Rattle.std.proofs.lemmas.Option.{none-some, same_Some}
use Rattle.std.proofs.lemmas.Bool.{cond_both}
use Rattle.linear_rows.specs.declared.fraction.Fraction.{Fraction}
use Rattle.linear_rows.specs.Fractions.{is_less}
use Rattle.linear_rows.specs.Elimination.{bound_on, better, best_bound}
use Rattle.linear_rows.proofs.Crosswise.{least_by_middle}
use Rattle.linear_rows.proofs.Valuing.{IsPositive, then_some}

module _ (is_better : Fraction → Fraction → Bool) (xs : List Fraction) where
  -- what the bounds so far and the new one all have, the better one has
  better_has : (P : Fraction → Type 0) (best : Option Fraction) (y : Fraction) → ((b : Fraction) → best ≡ Some b → P b) → P y → P (better is_better best y)
  better_has P None y old new = new
  better_has P (Some x) y old new = cond_both (is_better x y) y x P (λ _. new) (λ _. old x refl)

  -- what all bounds have, the best one has
  pub best_has : (P : Fraction → Type 0) (lines : List (List ℤ)) (best : Option Fraction) (x : Fraction) → best_bound is_better xs best lines ≡ Some (Some x) →
      ((b : Fraction) → best ≡ Some b → P b) → AllByRecursion (λ line. (y : Fraction) → bound_on xs line ≡ Some y → P y) lines → P x
  best_has P [] best x is old all = old x (same_Some best (Some x) is)
  best_has P (line ∷ lines) best x is old all =
      let (y, y_is, rest_is) = then_some (λ y. best_bound is_better xs (Some (better is_better best y)) lines) (bound_on xs line) (Some x) is in
      best_has P lines (Some (better is_better best y)) x rest_is
      (λ b e. subst P (same_Some (better is_better best y) b e) (better_has P best y old (all.0 y y_is))) all.1

  some_stays : (lines : List (List ℤ)) (b : Fraction) → best_bound is_better xs (Some b) lines ≡ Some None → ⊥
  some_stays [] b is = none-some b (sym (same_Some (Some b) None is))
  some_stays (line ∷ lines) b is =
      let (y, y_is, rest_is) = then_some (λ y. best_bound is_better xs (Some (better is_better (Some b) y)) lines) (bound_on xs line) None is in
      some_stays lines (better is_better (Some b) y) rest_is

  -- there is none only where there is no line
  pub none_best : (lines : List (List ℤ)) → best_bound is_better xs None lines ≡ Some None → AllByRecursion (λ line. ⊥) lines
  none_best [] is = tt
  none_best (line ∷ lines) is =
      let (y, y_is, rest_is) = then_some (λ y. best_bound is_better xs (Some (better is_better None y)) lines) (bound_on xs line) None is in
      absurd (some_stays lines (better is_better None y) rest_is)

  module _ (AtLeast : Fraction → Fraction → Type 0) (when_better : (x y : Fraction) → is_better x y ≡ true → AtLeast y x) (when_not : (x y : Fraction) → is_better x y ≡ false → AtLeast x y)
      (same : (x : Fraction) → AtLeast x x)
      (through : (x y z : Fraction) → IsPositive x → IsPositive y → IsPositive z → AtLeast x y → AtLeast y z → AtLeast x z) where
    better_than_new : (best : Option Fraction) (y : Fraction) → AtLeast (better is_better best y) y
    better_than_new None y = same y
    better_than_new (Some x) y = cond_both (is_better x y) y x (λ r. AtLeast r y) (λ _. same y) (λ e. when_not x y e)

    better_than_old : (best : Option Fraction) (y b : Fraction) → best ≡ Some b → AtLeast (better is_better best y) b
    better_than_old None y b is = absurd (none-some b is)
    better_than_old (Some x) y b is =
        subst (AtLeast (better is_better (Some x) y)) (same_Some x b is) (cond_both (is_better x y) y x (λ r. AtLeast r x) (λ e. when_better x y e) (λ _. same x))

    -- each line has a bound, and the best one is at least as good
    pub best_least : (lines : List (List ℤ)) (best : Option Fraction) (x : Fraction) → best_bound is_better xs best lines ≡ Some (Some x) →
        ((b : Fraction) → best ≡ Some b → IsPositive b) → AllByRecursion (λ line. (y : Fraction) → bound_on xs line ≡ Some y → IsPositive y) lines →
        ((b : Fraction) → best ≡ Some b → AtLeast x b) × AllByRecursion (λ line. (y : Fraction) × (bound_on xs line ≡ Some y) × AtLeast x y) lines
    best_least [] best x is old positive = (λ b e. subst (AtLeast x) (same_Some x b (sym (same_Some best (Some x) is) ∙ e)) (same x), tt)
    best_least (line ∷ lines) best x is old positive =
        let (y, y_is, rest_is) = then_some (λ y. best_bound is_better xs (Some (better is_better best y)) lines) (bound_on xs line) (Some x) is in
        let next = better is_better best y in
        let y_positive = positive.0 y y_is in
        let next_positive : IsPositive next = better_has IsPositive best y old y_positive in
        let of_next : (b : Fraction) → Some next ≡ Some b → IsPositive b = λ b e. subst IsPositive (same_Some next b e) next_positive in
        let rest = best_least lines (Some next) x rest_is of_next positive.1 in
        let x_positive : IsPositive x = best_has IsPositive lines (Some next) x rest_is of_next positive.1 in
        let most = rest.0 next refl in (
          λ b e. through x next b x_positive next_positive (old b e) most (better_than_old best y b e),
          ((y, y_is, through x next y x_positive next_positive y_positive most (better_than_new best y)), rest.1),
        )

by_test : (a b : ℤ) → int_lt a b ≡ true → a <ℤ b
by_test a b test = grind (arith, ints)

by_no_test : (a b : ℤ) → int_lt a b ≡ false → b ≤ℤ a
by_no_test a b test = grind (arith, ints)

-- no less, and no greater
abbrev pub IsAtLeast : Fraction → Fraction → Type 0
IsAtLeast x y = (y.over *ℤ x.under) ≤ℤ (x.over *ℤ y.under)

abbrev pub IsAtMost : Fraction → Fraction → Type 0
IsAtMost x y = IsAtLeast y x

pub lower_better : (x y : Fraction) → is_less x y ≡ true → IsAtLeast y x
lower_better x y e = let lt = by_test (x.over *ℤ y.under) (y.over *ℤ x.under) e in omega (arith, ints)

pub lower_not : (x y : Fraction) → is_less x y ≡ false → IsAtLeast x y
lower_not x y e = by_no_test (x.over *ℤ y.under) (y.over *ℤ x.under) e

pub least_itself : (x : Fraction) → IsAtLeast x x
least_itself x = omega (arith, ints)

pub lower_through : (x y z : Fraction) → IsPositive x → IsPositive y → IsPositive z → IsAtLeast x y → IsAtLeast y z → IsAtLeast x z
lower_through x y z p q r first second = least_by_middle x.over x.under y.over y.under z.over z.under p q r first second

pub upper_through : (x y z : Fraction) → IsPositive x → IsPositive y → IsPositive z → IsAtMost x y → IsAtMost y z → IsAtMost x z
upper_through x y z p q r first second = least_by_middle z.over z.under y.over y.under x.over x.under r q p second first
