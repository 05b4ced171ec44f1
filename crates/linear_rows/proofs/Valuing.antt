-- What the fractions that the elimination computes are worth over a denominator d, and that each is in lowest terms.
use Rattle.std.proofs.Common.{◌≡◌, ℤ, pos, neg_ℤ, ◌+ℤ◌, ◌-ℤ◌, ◌*ℤ◌, ◌<ℤ◌, List, [], ◌∷◌, map, Bool, true, false, cond, Option, Some, None, arith, refl, sym, ◌∙◌, subst}
use Rattle.std.specs.Prelude.{int_lt}
use Rattle.std.specs.Option.{option_and_then}
use Rattle.std.specs.List.{AllByRecursion, AllZip}
use Rattle.std.proofs.lemmas.Int.{ints}
use Rattle.std.proofs.lemmas.Option.{none-some, same_Some}
use Rattle.linear_rows.specs.declared.fraction.Fraction.{Fraction}
use Rattle.linear_rows.specs.Row.{products}
use Rattle.linear_rows.specs.Fractions.{reduced, whole, product, difference, quotient}
use Rattle.linear_rows.specs.Elimination.{left_over, bound_on}
use Rattle.linear_rows.specs.Solution.{IsInLowestTerms}
use Rattle.linear_rows.proofs.Sizes.{positive_product}
use Rattle.linear_rows.proofs.Products.{product_commutes, product_associates}
use Rattle.linear_rows.proofs.Crosswise.{value_lowered, value_times, value_less, value_by_coefficient, value_by_negative, value_over_more}
use Rattle.linear_rows.proofs.Lowering.{reduced_tells}
use Rattle.linear_rows.proofs.Meeting.{room}

-- a fraction is z over d
abbrev pub IsValue : ℤ → ℤ → Fraction → Type 0
IsValue d z x = x.over *ℤ d ≡ z *ℤ x.under

abbrev pub IsPositive : Fraction → Type 0
IsPositive x = pos 0 <ℤ x.under

-- what is known of a fraction that was computed
pub record IsWorth (d z : ℤ) (x : Fraction) : Type 0 where
  pub value : IsValue d z x
  pub lowest : IsInLowestTerms x

pub reduced_worth : (over under d z : ℤ) (x : Fraction) → pos 0 <ℤ under → reduced over under ≡ Some x → over *ℤ d ≡ z *ℤ under → IsWorth d z x
reduced_worth over under d z x positive is e =
    let told = reduced_tells over under x positive is in
    record { value = value_lowered told.divided x.over x.under over under d z told.positive told.over_is told.under_is e; lowest = told.lowest }

product_worth : (a d z : ℤ) (x p : Fraction) → IsPositive x → IsValue d z x → product a x ≡ Some p → IsWorth d (a *ℤ z) p
product_worth a d z x p positive value is = reduced_worth (a *ℤ x.over) x.under d (a *ℤ z) p positive is (value_times a x.over x.under d z value)

difference_worth : (d v w : ℤ) (s p r : Fraction) → IsPositive s → IsPositive p → IsValue d v s → IsValue d w p → difference s p ≡ Some r → IsWorth d (v -ℤ w) r
difference_worth d v w s p r s_positive p_positive s_is p_is is =
    reduced_worth ((s.over *ℤ p.under) -ℤ (p.over *ℤ s.under)) (s.under *ℤ p.under) d (v -ℤ w) r (positive_product s.under p.under s_positive p_positive) is
    (value_less s.over s.under p.over p.under d v w s_is p_is)

-- some value was computed after another
pub then_some : {A B : Type 0} (f : A → Option B) (o : Option A) (y : B) → option_and_then f o ≡ Some y → (x : A) × (o ≡ Some x) × (f x ≡ Some y)
then_some f None y is = absurd (none-some y is)
then_some f (Some x) y is = (x, refl, is)

pub record IsLeft (d z : ℤ) (x : Fraction) : Type 0 where
  pub value : IsValue d z x
  pub positive : IsPositive x

same_value : (d v w : ℤ) (x : Fraction) → v ≡ w → IsLeft d v x → IsLeft d w x
same_value d v w x e left = subst (λ (z : ℤ). IsLeft d z x) e left

-- a bound less the products
pub left_over_is : (d v : ℤ) (s r : Fraction) (cs : List ℤ) (xs : List Fraction) (zs : List ℤ) → AllByRecursion IsPositive xs → AllZip (IsValue d) zs xs →
    IsLeft d v s → left_over s cs xs ≡ Some r → IsLeft d (v -ℤ products cs zs) r
left_over_is d v s r [] xs zs positive values left is = same_value d v (v -ℤ products [] zs) r (omega (arith, ints)) (subst (IsLeft d v) (same_Some s r is) left)
left_over_is d v s r (a ∷ cs) [] [] positive values left is = same_value d v (v -ℤ products (a ∷ cs) []) r (omega (arith, ints)) (subst (IsLeft d v) (same_Some s r is) left)
left_over_is d v s r (a ∷ cs) [] (z ∷ zs) positive values left is = absurd values
left_over_is d v s r (a ∷ cs) (x ∷ xs) [] positive values left is = absurd values
left_over_is d v s r (a ∷ cs) (x ∷ xs) (z ∷ zs) positive values left is =
    let (p, p_is, after) = then_some (λ p. option_and_then (λ rest. left_over rest cs xs) (difference s p)) (product a x) r is in
    let (t, t_is, rest_is) = then_some (λ rest. left_over rest cs xs) (difference s p) r after in
    let p_worth = product_worth a d z x p positive.0 values.0 p_is in
    let t_worth = difference_worth d v (a *ℤ z) s p t left.positive p_worth.lowest.positive left.value p_worth.value t_is in
    let rest = left_over_is d (v -ℤ (a *ℤ z)) t r cs xs zs positive.1 values.1 (record { value = t_worth.value; positive = t_worth.lowest.positive }) rest_is in
    same_value d ((v -ℤ (a *ℤ z)) -ℤ products cs zs) (v -ℤ ((a *ℤ z) +ℤ products cs zs)) r (omega (arith, ints)) rest

-- a bound of a line is over the denominator times the coefficient
quotient_by : (d v a : ℤ) (s y : Fraction) (b : Bool) → int_lt a (pos 0) ≡ b → IsLeft d v s → (a ≡ pos 0 → ⊥) →
    cond b (reduced (neg_ℤ s.over) (s.under *ℤ neg_ℤ a)) (reduced s.over (s.under *ℤ a)) ≡ Some y → IsWorth (d *ℤ a) v y
quotient_by d v a s y true test left some is =
    let negative : a <ℤ pos 0 = by_test a (pos 0) test in
    reduced_worth (neg_ℤ s.over) (s.under *ℤ neg_ℤ a) (d *ℤ a) v y (positive_product s.under (neg_ℤ a) left.positive (omega (arith, ints))) is
    (value_by_negative s.over s.under d v a left.value)
  where
    by_test : (a b : ℤ) → int_lt a b ≡ true → a <ℤ b
    by_test a b test = grind (arith, ints)
quotient_by d v a s y false test left some is =
    let positive : pos 0 <ℤ a = by_test a test some in
    reduced_worth s.over (s.under *ℤ a) (d *ℤ a) v y (positive_product s.under a left.positive positive) is
    (value_by_coefficient s.over s.under d v a left.value)
  where
    by_test : (a : ℤ) → int_lt a (pos 0) ≡ false → (a ≡ pos 0 → ⊥) → pos 0 <ℤ a
    by_test a test some = grind (arith, ints)

pub bound_worth : (d b a : ℤ) (cs : List ℤ) (xs : List Fraction) (zs : List ℤ) (y : Fraction) → AllByRecursion IsPositive xs → AllZip (IsValue d) zs xs → (a ≡ pos 0 → ⊥) →
    bound_on xs (b ∷ a ∷ cs) ≡ Some y → IsWorth (d *ℤ a) (room d zs b cs) y
bound_worth d b a cs xs zs y positive values some is =
    let (s, s_is, after) = then_some (λ rest. quotient rest a) (left_over (whole b) cs xs) y is in
    let start : IsLeft d (b *ℤ d) (whole b) = record { value = sym (product_commutes (b *ℤ d) (pos 1) ∙ one_times (b *ℤ d)); positive = omega (arith, ints) } in
    let left = left_over_is d (b *ℤ d) (whole b) s cs xs zs positive values start s_is in
    quotient_by d (room d zs b cs) a s y (int_lt a (pos 0)) refl left some after
  where
    one_times : (z : ℤ) → pos 1 *ℤ z ≡ z
    one_times z = omega (arith, ints)

-- the values of the other variables over the new denominator
values_over_more : (d t : ℤ) (zs : List ℤ) (xs : List Fraction) → AllZip (IsValue d) zs xs → AllZip (IsValue (d *ℤ t)) (map (λ z. t *ℤ z) zs) xs
values_over_more d t [] [] values = tt
values_over_more d t [] (x ∷ xs) values = absurd values
values_over_more d t (z ∷ zs) [] values = absurd values
values_over_more d t (z ∷ zs) (x ∷ xs) values = (value_over_more x.over x.under d z t values.0, values_over_more d t zs xs values.1)

-- with the value of the first variable
pub values_with_first : (d : ℤ) (x : Fraction) (zs : List ℤ) (xs : List Fraction) → AllZip (IsValue d) zs xs →
    AllZip (IsValue (d *ℤ x.under)) ((x.over *ℤ d) ∷ map (λ z. x.under *ℤ z) zs) (x ∷ xs)
values_with_first d x zs xs values = (sym (product_associates x.over d x.under), values_over_more d x.under zs xs values)
