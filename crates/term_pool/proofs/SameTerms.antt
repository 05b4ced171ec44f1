-- The test of equal terms says that they are equal, and finds a term at its number.
use Rattle.std.specs.Prelude.{◌≡◌, ℕ, zero, suc, Bool, true, false, cond, List, [], ◌∷◌, Some, slice_get, refl}
use Rattle.std.proofs.Common.{sym, ◌∙◌, ap, subst, true≢false}
use Rattle.std.proofs.lemmas.Option.{none-some, same_Some}
use Rattle.std.specs.Ordering.{is_eq}
use Rattle.std.specs.declared.cmp.Ordering.{Ordering}
use Rattle.std.specs.declared.cmp.Ordering.TheVariants.{Less, Equal, Greater}
use Rattle.rule_terms.specs.Order.{store_cmp, value_cmp}
use Rattle.rule_terms.proofs.Orders.{store_decides, value_decides}
use Rattle.term_pool.specs.Numbered.{Term, a_store, a_value, Once}
use Rattle.term_pool.specs.Growth.{term_same}

is_equal : (o : Ordering) → is_eq o ≡ true → o ≡ Equal
is_equal Less h = absurd (true≢false (sym h))
is_equal Equal h = refl
is_equal Greater h = absurd (true≢false (sym h))

pub term_decides : (t u : Term) → term_same t u ≡ true → t ≡ u
unfolding term_same
term_decides (a_store s) (a_store t) h = ap a_store ((store_decides s t).0 (is_equal (store_cmp s t) h))
term_decides (a_value v) (a_value w) h = ap a_value ((value_decides v w).0 (is_equal (value_cmp v w) h))
term_decides (a_store s) (a_value w) h = absurd (true≢false (sym h))
term_decides (a_value v) (a_store t) h = absurd (true≢false (sym h))

pub term_itself : (t : Term) → term_same t t ≡ true
unfolding term_same
term_itself (a_store s) = ap is_eq ((store_decides s s).1 refl)
term_itself (a_value v) = ap is_eq ((value_decides v v).1 refl)

-- the first number of a term
pub find : List Term → Term → ℕ
find [] t = 0
find (x ∷ xs) t = cond (term_same t x) 0 (suc (find xs t))

found_by : (x : Term) (xs : List Term) (t : Term) (i : ℕ) (b : Bool) → term_same t x ≡ b → slice_get (x ∷ xs) i ≡ Some t → ((j : ℕ) → slice_get xs j ≡ Some t → slice_get xs (find xs t) ≡ Some t)
    → slice_get (x ∷ xs) (cond (term_same t x) 0 (suc (find xs t))) ≡ Some t
found_by x xs t i true e h rest = ap (λ c. slice_get (x ∷ xs) (cond c 0 (suc (find xs t)))) e ∙ ap (λ u. Some u) (sym (term_decides t x e))
found_by x xs t zero false e h rest = absurd (true≢false (sym (subst (λ u. term_same t u ≡ true) (sym (same_Some x t h)) (term_itself t)) ∙ e))
found_by x xs t (suc i) false e h rest = ap (λ c. slice_get (x ∷ xs) (cond c 0 (suc (find xs t)))) e ∙ rest i h

find_there : (ts : List Term) (i : ℕ) (t : Term) → slice_get ts i ≡ Some t → slice_get ts (find ts t) ≡ Some t
unfolding find
find_there [] i t h = absurd (none-some t h)
find_there (x ∷ xs) i t h = found_by x xs t i (term_same t x) refl h (λ j k. find_there xs j t k)

pub found : (ts : List Term) → Once ts → (i : ℕ) (t : Term) → slice_get ts i ≡ Some t → find ts t ≡ i
found ts once i t h = once (find ts t) i t (find_there ts i t h) h
