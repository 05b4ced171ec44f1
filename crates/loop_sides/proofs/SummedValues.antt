-- An expression has the value of its summed form, by induction over the expression.
use Rattle.std.specs.Prelude.{◌≡◌, ◌≤◌, ◌<◌, ℕ, zero, suc, ◌==◌, ℤ, pos, negsuc, ◌+ℤ◌, ◌-ℤ◌, ◌*ℤ◌, List, [], ◌∷◌, length, position, Bool, true, false, Option, Some, None, nat_lt, not, slice_index_or, replicate, option_map, All, ◌&&◌, if◌then◌else◌, refl}
use Rattle.std.proofs.Common.{◌∙◌, ap, sym, arith, subst, ltb-true}
use Rattle.std.proofs.Math.Dec.{eqb-suc-zero}
use Rattle.std.specs.List.{position_or_len}
use Rattle.std.proofs.lemmas.Int.{ints}
use Rattle.std.proofs.lemmas.List.{length-set}
use lib.IntN.{zero-*ℤ, *ℤ_comm}
use Rattle.toy_imp.specs.declared.instance.Instance.{Instance}
use Rattle.toy_imp.specs.declared.name.Name.TheVariants.{Own, Par}
use Rattle.toy_imp.specs.declared.param.Param.{Param}
use Rattle.toy_imp.specs.declared.param.Kind.TheVariants as kind
use Rattle.toy_imp.specs.Faults.{has_kind}
use Rattle.toy_imp.specs.Expr.{Expr, num, at, add, sub, mul, par_expr, no_exprs, expr}
use Rattle.toy_imp.specs.ExprView.{exprs_of}
use Rattle.toy_imp.specs.Fill.{name_at, expr_at, fill_expr, fill_name}
use Rattle.toy_imp.specs.Cell.{variable}
use Rattle.toy_imp.specs.Store.{Store, read}
use Rattle.toy_imp.specs.Value.{value}
use Rattle.affine_forms.specs.declared.form.Form.{Form}
use Rattle.affine_forms.specs.Form.{weighted_sum, form_value, IsForm, plus_multiples, constant_form, counter_form, symbol_form, plus_multiple, plus, minus, scaled}
use Rattle.affine_forms.proofs.Values.{constant_is_itself, counter_is_its_value, symbol_is_its_value, multiple_is_added}
use Rattle.loop_sides.specs.Summed.{is_small, is_constant, has_indices, if_small, counter_place, is_renamed, symbol_place, symbols_before, cell_form, sum_form, difference_form, product_of, product_form, summed}
use Rattle.loop_sides.specs.Laws.{HoldsCounters, SummedIsValue}
use Rattle.loop_sides.proofs.Tests.{constant_decided}

-- ---- what an option that is there tells
told : {A : Type 0} (b : Bool) (x y : A) → (if b then Some x else None) ≡ Some y → (b ≡ true) × (x ≡ y)
told true x y is = grind arith
told false x y is = grind arith

none_there : (f : Form) → None ≡ Some f → ⊥
none_there f is = grind arith

kept : (f g : Form) → if_small f ≡ Some g → f ≡ g
unfolding if_small
kept f g is = (told (is_small f) f g is).1

record Mapped (make : ℕ → Form) (o : Option ℕ) (f : Form) : Type 0 where
  place : ℕ
  found : o ≡ Some place
  form : make place ≡ f

mapped : (make : ℕ → Form) (o : Option ℕ) (f : Form) → option_map make o ≡ Some f → Mapped make o f
mapped make None f is = grind arith
mapped make (Some j) f is = record { place = j; found = refl; form = grind arith }

-- whether there are indices, as the list of them tells it
pub some_indices : (es : List Expr) → not (length es == 0) ≡ has_indices (exprs_of es)
some_indices [] = refl
some_indices (e ∷ es) = ap not (eqb-suc-zero (length es))

-- ---- forms of parts, with their values
pub record Worth (f : Form) (z : ℤ) (xs vs : List ℤ) : Type 0 where
  pub form : IsForm f
  pub is : z ≡ form_value f xs vs

as_many : (ns os : List ℤ) (t : ℤ) → length (plus_multiples ns t os) ≡ length ns
unfolding plus_multiples
as_many [] os t = refl
as_many (n ∷ ns) [] t = refl
as_many (n ∷ ns) (o ∷ os) t = ap suc (as_many ns os t)

multiple_is_form : (f g : Form) (t : ℤ) → IsForm f → IsForm (plus_multiple f t g)
multiple_is_form f g t is = record {
  counters = as_many f.counters g.counters t ∙ is.counters;
  symbols = as_many f.symbols g.symbols t ∙ is.symbols;
}

number_worth : (z : ℤ) (xs vs : List ℤ) → Worth (constant_form z) z xs vs
number_worth z xs vs = record { form = record { counters = refl; symbols = refl }; is = sym (constant_is_itself z xs vs) }

counter_worth : (k : ℕ) (xs vs : List ℤ) (z : ℤ) → k < 4 → z ≡ slice_index_or xs k (pos 0) → Worth (counter_form k) z xs vs
counter_worth k xs vs z lt is = record {
  form = record { counters = length-set (replicate 4 (pos 0)) k (pos 1); symbols = refl };
  is = is ∙ sym (counter_is_its_value k xs vs lt);
}

symbol_worth : (k : ℕ) (xs vs : List ℤ) (z : ℤ) → k < 8 → z ≡ slice_index_or vs k (pos 0) → Worth (symbol_form k) z xs vs
symbol_worth k xs vs z lt is = record {
  form = record { counters = refl; symbols = length-set (replicate 8 (pos 0)) k (pos 1) };
  is = is ∙ sym (symbol_is_its_value k xs vs lt);
}

multiple_worth : (f g : Form) (t a b : ℤ) (xs vs : List ℤ) → Worth f a xs vs → Worth g b xs vs → Worth (plus_multiple f t g) (a +ℤ (t *ℤ b)) xs vs
multiple_worth f g t a b xs vs first second = record {
  form = multiple_is_form f g t first.form;
  is = ap (λ z. z +ℤ (t *ℤ b)) first.is ∙ ap (λ z. form_value f xs vs +ℤ (t *ℤ z)) second.is ∙ sym (multiple_is_added f g t xs vs first.form second.form);
}

once : (a b : ℤ) → a +ℤ b ≡ a +ℤ (pos 1 *ℤ b)
once a b = omega (arith, ints)

turned : (a b : ℤ) → a -ℤ b ≡ a +ℤ (negsuc 0 *ℤ b)
turned a b = omega (arith, ints)

alone : (t b : ℤ) → t *ℤ b ≡ pos 0 +ℤ (t *ℤ b)
alone t b = omega (arith, ints)

pub worth_moved : (f : Form) (y z : ℤ) (xs vs : List ℤ) → z ≡ y → Worth f y xs vs → Worth f z xs vs
worth_moved f y z xs vs is worth = record { form = worth.form; is = is ∙ worth.is }

-- ---- a constant is worth its constant
nothing_weighed : (zs vs : List ℤ) → All (λ z. z ≡ pos 0) zs → weighted_sum zs vs ≡ pos 0
unfolding weighted_sum
nothing_weighed [] vs are = refl
nothing_weighed (z ∷ zs) [] are = refl
nothing_weighed (z ∷ zs) (v ∷ vs) are =
    let first : z *ℤ v ≡ pos 0 = ap (λ y. y *ℤ v) (are zero z (omega arith)) ∙ zero-*ℤ v in
    let rest = nothing_weighed zs vs (λ k d lt. are (suc k) d (omega arith)) in
    omega (arith, ints)

constant_worth : (f : Form) (xs vs : List ℤ) → is_constant f ≡ true → form_value f xs vs ≡ f.constant
constant_worth f xs vs is =
    let parts = (constant_decided f).0 is in
    let counters = nothing_weighed f.counters xs parts.counters in
    let symbols = nothing_weighed f.symbols vs parts.symbols in
    omega (arith, ints)

-- ---- the operators
sum_worth : (o p : Option Form) (f : Form) (a b : ℤ) (xs vs : List ℤ) → sum_form o p ≡ Some f →
    ((g : Form) → o ≡ Some g → Worth g a xs vs) → ((g : Form) → p ≡ Some g → Worth g b xs vs) → Worth f (a +ℤ b) xs vs
unfolding sum_form
sum_worth None p f a b xs vs is first second = grind arith
sum_worth (Some g) None f a b xs vs is first second = grind arith
sum_worth (Some g) (Some h) f a b xs vs is first second =
    subst (λ j. Worth j (a +ℤ b) xs vs) (kept (plus g h) f is)
    (worth_moved (plus g h) (a +ℤ (pos 1 *ℤ b)) (a +ℤ b) xs vs (once a b) (multiple_worth g h (pos 1) a b xs vs (first g refl) (second h refl)))

difference_worth : (o p : Option Form) (f : Form) (a b : ℤ) (xs vs : List ℤ) → difference_form o p ≡ Some f →
    ((g : Form) → o ≡ Some g → Worth g a xs vs) → ((g : Form) → p ≡ Some g → Worth g b xs vs) → Worth f (a -ℤ b) xs vs
unfolding difference_form
difference_worth None p f a b xs vs is first second = grind arith
difference_worth (Some g) None f a b xs vs is first second = grind arith
difference_worth (Some g) (Some h) f a b xs vs is first second =
    subst (λ j. Worth j (a -ℤ b) xs vs) (kept (minus g h) f is)
    (worth_moved (minus g h) (a +ℤ (negsuc 0 *ℤ b)) (a -ℤ b) xs vs (turned a b) (multiple_worth g h (negsuc 0) a b xs vs (first g refl) (second h refl)))

scaled_worth : (t : ℤ) (f g : Form) (b : ℤ) (xs vs : List ℤ) → if_small (scaled t f) ≡ Some g → Worth f b xs vs → Worth g (t *ℤ b) xs vs
scaled_worth t f g b xs vs is worth =
    subst (λ j. Worth j (t *ℤ b) xs vs) (kept (scaled t f) g is)
    (worth_moved (scaled t f) (pos 0 +ℤ (t *ℤ b)) (t *ℤ b) xs vs (alone t b) (multiple_worth (constant_form (pos 0)) f t (pos 0) b xs vs (number_worth (pos 0) xs vs) worth))

-- by which factor is a constant
product_by : (f g h : Form) (a b : ℤ) (xs vs : List ℤ) → Worth f a xs vs → Worth g b xs vs → (first second : Bool) → is_constant f ≡ first → is_constant g ≡ second →
    (if first then if_small (scaled f.constant g) else if second then if_small (scaled g.constant f) else None) ≡ Some h → Worth h (a *ℤ b) xs vs
product_by f g h a b xs vs left right true second is_first is_second is =
    worth_moved h (f.constant *ℤ b) (a *ℤ b) xs vs (ap (λ z. z *ℤ b) (left.is ∙ constant_worth f xs vs is_first)) (scaled_worth f.constant g h b xs vs is right)
product_by f g h a b xs vs left right false true is_first is_second is =
    worth_moved h (g.constant *ℤ a) (a *ℤ b) xs vs (*ℤ_comm a b ∙ ap (λ z. z *ℤ a) (right.is ∙ constant_worth g xs vs is_second)) (scaled_worth g.constant f h a xs vs is left)
product_by f g h a b xs vs left right false false is_first is_second is = grind arith

product_worth : (o p : Option Form) (f : Form) (a b : ℤ) (xs vs : List ℤ) → product_form o p ≡ Some f →
    ((g : Form) → o ≡ Some g → Worth g a xs vs) → ((g : Form) → p ≡ Some g → Worth g b xs vs) → Worth f (a *ℤ b) xs vs
unfolding product_form product_of
product_worth None p f a b xs vs is first second = grind arith
product_worth (Some g) None f a b xs vs is first second = grind arith
product_worth (Some g) (Some h) f a b xs vs is first second =
    product_by g h f a b xs vs (first g refl) (second h refl) (is_constant g) (is_constant h) refl refl is

-- ---- counters and symbols
found_below : (b : Bool) (n j m : ℕ) → nat_lt n m ≡ b → (if b then Some n else None) ≡ Some j → j < m
found_below true n j m lt is = let e : n ≡ j = grind arith in omega (arith, ltb-true n m lt, e)
found_below false n j m lt is = grind arith

position_below : (p : ℕ → Bool) (xs : List ℕ) (j : ℕ) → position p xs ≡ Some j → j < length xs
position_below p xs j is = found_below _ (position_or_len p xs) j (length xs) refl is

place_below : (b : Bool) (names : List ℕ) (k j : ℕ) → (if b then None else position (λ x. x == k) names) ≡ Some j → j < length names
place_below true names k j is = grind arith
place_below false names k j is = position_below (λ x. x == k) names j is

counter_below : (names : List ℕ) (renamed : Option ℕ) (k j : ℕ) → counter_place names renamed k ≡ Some j → j < length names
unfolding counter_place
counter_below names renamed k j is = place_below (is_renamed renamed k) names k j is

eight_by : (a b : Bool) (n j : ℕ) → nat_lt n 8 ≡ b → (if a && b then Some n else None) ≡ Some j → j < 8
eight_by true true n j lt is = found_below true n j 8 lt is
eight_by true false n j lt is = grind arith
eight_by false b n j lt is = grind arith

symbol_below : (ps : List Param) (k j : ℕ) → symbol_place ps k ≡ Some j → j < 8
unfolding symbol_place
symbol_below ps k j is = eight_by (has_kind ps kind.Expr k) _ (symbols_before ps k) j refl is

-- ---- expressions
pub worth : (ps : List Param) (names : List ℕ) (renamed : Option ℕ) (i : Instance) (s : Store) (xs vs : List ℤ) → length names ≤ 4 →
    HoldsCounters ps names renamed i s xs vs → (e : Expr) (f : Form) → summed ps names renamed e ≡ Some f → Worth f (value (fill_expr i e) s) xs vs
unfolding value fill_expr fill_name summed cell_form
worth ps names renamed i s xs vs few holds (num z) f is = subst (λ j. Worth j z xs vs) (kept (constant_form z) f is) (number_worth z xs vs)
worth ps names renamed i s xs vs few holds (at (Par k) no_exprs) f is =
    let m = mapped counter_form (counter_place names renamed k) f is in
    subst (λ g. Worth g (read s (variable (name_at i k))) xs vs) m.form (counter_worth m.place xs vs (read s (variable (name_at i k))) (omega (arith, few, counter_below names renamed k m.place m.found)) (holds.counters k m.place m.found))
worth ps names renamed i s xs vs few holds (at (Par k) (expr e es)) f is = absurd (none_there f is)
worth ps names renamed i s xs vs few holds (at (Own x) es) f is = absurd (none_there f is)
worth ps names renamed i s xs vs few holds (add a b) f is =
    sum_worth (summed ps names renamed a) (summed ps names renamed b) f _ _ xs vs is (worth ps names renamed i s xs vs few holds a) (worth ps names renamed i s xs vs few holds b)
worth ps names renamed i s xs vs few holds (sub a b) f is =
    difference_worth (summed ps names renamed a) (summed ps names renamed b) f _ _ xs vs is (worth ps names renamed i s xs vs few holds a) (worth ps names renamed i s xs vs few holds b)
worth ps names renamed i s xs vs few holds (mul a b) f is =
    product_worth (summed ps names renamed a) (summed ps names renamed b) f _ _ xs vs is (worth ps names renamed i s xs vs few holds a) (worth ps names renamed i s xs vs few holds b)
worth ps names renamed i s xs vs few holds (par_expr k) f is =
    let m = mapped symbol_form (symbol_place ps k) f is in
    subst (λ g. Worth g (value (expr_at i k) s) xs vs) m.form (symbol_worth m.place xs vs (value (expr_at i k) s) (symbol_below ps k m.place m.found) (holds.symbols k m.place m.found))

pub summed_is_value : SummedIsValue
summed_is_value params names renamed i s xs vs e f few holds is = (worth params names renamed i s xs vs few holds e f is).is
