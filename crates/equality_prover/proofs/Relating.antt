-- Terms by their places: where one stands, and that terms of one class are related by each relation that the classes keep to.
use Rattle.std.specs.Prelude.{◌≡◌, ℕ, zero, suc, ◌<◌, Bool, true, false, cond, ◌&&◌, ◌||◌, List, [], ◌∷◌, length, get_or, Option, Some, None, slice_get, Contains, refl}
use Rattle.std.specs.List.{list_any, list_all}
use Rattle.std.proofs.Common.{sym, ap, ◌∙◌, subst, eqb-true, eq-eqb, true≢false, arith}
use Rattle.std.proofs.lemmas.Bool.{and_parts, and_from}
use Rattle.std.proofs.lemmas.List.{get_or_default}
use Rattle.std.proofs.lemmas.Option.{slice_get_within, slice_get-get_or, get_or_from_slice_get}
use Rattle.rule_terms.specs.declared.obligation.Atom.TheVariants.{SameName, SameStore, SameValue, AtMost, Ends, Holds}
use Rattle.law_clauses.specs.Signed.{Signed, plus, minus}
use Rattle.law_clauses.specs.Arguments.{Argument, of_name, of_store, of_value, identical}
use Rattle.law_clauses.proofs.Same.{store_is, value_is, number_is}
use Rattle.law_clauses.proofs.Itself.{number_itself, store_itself, value_itself}
use Rattle.equality_prover.specs.Congruence.{all_related, IsCongruence, respects, all_respected}
use Rattle.equality_prover.specs.Places.{place_of, places_of, same_some, one_class, pairs_in_class, in_class}
use Rattle.equality_prover.specs.Growth.{term_at, class_at, IsSound, IsCoarser, stands}

-- ---- identical terms
pub identical_itself : (a : Argument) → identical a a ≡ true
identical_itself (of_name x) = number_itself x
identical_itself (of_store s) = store_itself s
identical_itself (of_value v) = value_itself v

pub identical_is : (a b : Argument) → identical a b ≡ true → a ≡ b
identical_is (of_name x) (of_name y) e = ap of_name (number_is x y e)
identical_is (of_store s) (of_store t) e = ap of_store (store_is s t e)
identical_is (of_value v) (of_value w) e = ap of_value (value_is v w e)
identical_is _ _ e = absurd (true≢false (sym e))

-- ---- where a term stands
pub place_stands : (terms : List Argument) (a : Argument) → stands terms a ≡ true → place_of terms a < length terms
unfolding place_of
place_stands [] a e = absurd (true≢false (sym e))
place_stands (b ∷ bs) a e = cases (identical a b) (place_stands bs a) e
  where
    cases : (p : Bool) → (list_any (identical a) bs ≡ true → place_of bs a < length bs) → (p || list_any (identical a) bs) ≡ true → cond p 0 (suc (place_of bs a)) < suc (length bs)
    cases true more f = omega arith
    cases false more f = let h = more f in omega (arith, h)

pub place_is : (terms : List Argument) (a : Argument) → place_of terms a < length terms → term_at terms (place_of terms a) ≡ a
unfolding place_of
place_is [] a h = absurd (omega arith)
place_is (b ∷ bs) a h = cases (identical a b) refl (place_is bs a) h
  where
    cases : (p : Bool) → identical a b ≡ p → (place_of bs a < length bs → term_at bs (place_of bs a) ≡ a) → cond p 0 (suc (place_of bs a)) < suc (length bs)
        → get_or (b ∷ bs) (cond p 0 (suc (place_of bs a))) (of_name 0) ≡ a
    cases true e more g = sym (identical_is a b e)
    cases false e more g = more (omega (arith, g))

or_left : (p q : Bool) → p ≡ true → (p || q) ≡ true
or_left true q f = refl
or_left false q f = absurd (true≢false (sym f))

or_right : (p q : Bool) → q ≡ true → (p || q) ≡ true
or_right true q f = refl
or_right false q f = f

stands_at : (terms : List Argument) (a : Argument) (k : ℕ) → k < length terms → get_or terms k a ≡ a → stands terms a ≡ true
stands_at [] a k h e = absurd (omega arith)
stands_at (b ∷ bs) a zero h e = or_left (identical a b) (list_any (identical a) bs) (subst (λ x. identical a x ≡ true) (sym e) (identical_itself a))
stands_at (b ∷ bs) a (suc k) h e = or_right (identical a b) (list_any (identical a) bs) (stands_at bs a k (omega arith) e)

pub place_contained : (terms : List Argument) (a : Argument) → Contains terms a → place_of terms a < length terms
place_contained terms a c = place_stands terms a (stands_at terms a c.0 c.1 c.2)

pub contains_at : (terms : List Argument) (k : ℕ) → k < length terms → Contains terms (term_at terms k)
contains_at terms k h = (k, h, get_or_default terms k (term_at terms k) (of_name 0) h)

-- ---- classes at places
both_some : (o p : Option ℕ) → same_some o p ≡ true → (c : ℕ) × (o ≡ Some c) × (p ≡ Some c)
both_some (Some c) (Some d) e = let f : c ≡ d = eqb-true c d e in (c, refl, ap Some (sym f))
both_some None p e = absurd (true≢false (sym e))
both_some (Some c) None e = absurd (true≢false (sym e))

pub record IsOne (classes : List ℕ) (p q : ℕ) : Type 0 where
  pub first : p < length classes
  pub second : q < length classes
  pub same : class_at classes p ≡ class_at classes q

pub one_class_is : (classes : List ℕ) (p q : ℕ) → one_class classes p q ≡ true → IsOne classes p q
one_class_is classes p q e =
    let both = both_some (slice_get classes p) (slice_get classes q) e in
    record {
      first = slice_get_within classes p both.0 both.1;
      second = slice_get_within classes q both.0 both.2;
      same = get_or_from_slice_get classes p both.0 0 both.1 ∙ sym (get_or_from_slice_get classes q both.0 0 both.2);
    }

pub one_class_from : (classes : List ℕ) (p q : ℕ) → p < length classes → q < length classes → class_at classes p ≡ class_at classes q → one_class classes p q ≡ true
one_class_from classes p q h g e =
    (λ j. same_some (slice_get-get_or classes p 0 h j) (slice_get-get_or classes q 0 g j)) ∙ eq-eqb (class_at classes p) (class_at classes q) e

pub in_coarser : (terms : List Argument) (old new : List ℕ) → length new ≡ length old → IsCoarser old new → (a b : Argument) → in_class terms old a b ≡ true → in_class terms new a b ≡ true
in_coarser terms old new count coarser a b e =
    let one = one_class_is old (place_of terms a) (place_of terms b) e in
    one_class_from new (place_of terms a) (place_of terms b) (subst (λ n. place_of terms a < n) (sym count) one.first) (subst (λ n. place_of terms b < n) (sym count) one.second)
    (coarser (place_of terms a) (place_of terms b) one.first one.second one.same)

-- ---- pairs of places and pairs of terms
pub pairs_related : (terms : List Argument) (classes : List ℕ) (xs ys : List Argument) → pairs_in_class classes (places_of terms xs) (places_of terms ys) ≡ all_related (in_class terms classes) xs ys
unfolding pairs_in_class
pairs_related terms classes [] [] = refl
pairs_related terms classes [] (y ∷ ys) = refl
pairs_related terms classes (x ∷ xs) [] = refl
pairs_related terms classes (x ∷ xs) (y ∷ ys) = ap (λ b. in_class terms classes x y && b) (pairs_related terms classes xs ys)

pub related_more : (r s : Argument → Argument → Bool) → ((a b : Argument) → r a b ≡ true → s a b ≡ true) → (xs ys : List Argument) → all_related r xs ys ≡ true → all_related s xs ys ≡ true
related_more r s more [] [] e = refl
related_more r s more [] (y ∷ ys) e = absurd (true≢false (sym e))
related_more r s more (x ∷ xs) [] e = absurd (true≢false (sym e))
related_more r s more (x ∷ xs) (y ∷ ys) e = let p = and_parts (r x y) (all_related r xs ys) e in and_from (s x y) (all_related s xs ys) (more x y p.0) (related_more r s more xs ys p.1)

-- ---- terms of one class are related
pub in_class_related : (terms : List Argument) (r : Argument → Argument → Bool) (classes : List ℕ) → length classes ≡ length terms → IsCongruence terms r → IsSound terms r classes →
    (a b : Argument) → in_class terms classes a b ≡ true → r a b ≡ true
in_class_related terms r classes count c sound a b e =
    let one = one_class_is classes (place_of terms a) (place_of terms b) e in
    let first : term_at terms (place_of terms a) ≡ a = place_is terms a (subst (λ n. place_of terms a < n) count one.first) in
    let second : term_at terms (place_of terms b) ≡ b = place_is terms b (subst (λ n. place_of terms b < n) count one.second) in
    let left : r a (term_at terms (class_at classes (place_of terms a))) ≡ true =
    subst (λ x. r x (term_at terms (class_at classes (place_of terms a))) ≡ true) first (sound (place_of terms a) one.first) in
    let right : r b (term_at terms (class_at classes (place_of terms b))) ≡ true =
    subst (λ x. r x (term_at terms (class_at classes (place_of terms b))) ≡ true) second (sound (place_of terms b) one.second) in
    let over : r b (term_at terms (class_at classes (place_of terms a))) ≡ true =
    subst (λ n. r b (term_at terms n) ≡ true) (sym one.same) right in
    c.chained a (term_at terms (class_at classes (place_of terms a))) b left (c.turned b (term_at terms (class_at classes (place_of terms a))) over)

-- ---- equalities that hold in a relation hold in a larger one
respects_more : (r s : Argument → Argument → Bool) → ((a b : Argument) → r a b ≡ true → s a b ≡ true) → (x : Signed) → respects r x ≡ true → respects s x ≡ true
respects_more r s more (plus (SameName x y)) e = more (of_name x) (of_name y) e
respects_more r s more (plus (SameStore a b)) e = more (of_store a) (of_store b) e
respects_more r s more (plus (SameValue a b)) e = more (of_value a) (of_value b) e
respects_more r s more (plus (AtMost a b c)) e = refl
respects_more r s more (plus (Ends a)) e = refl
respects_more r s more (plus (Holds k a)) e = refl
respects_more r s more (minus a) e = refl

pub all_respected_more : (r s : Argument → Argument → Bool) → ((a b : Argument) → r a b ≡ true → s a b ≡ true) → (given : List Signed) → all_respected r given ≡ true → all_respected s given ≡ true
unfolding all_respected
all_respected_more r s more [] e = refl
all_respected_more r s more (x ∷ xs) e =
    let p = and_parts (respects r x) (list_all (respects r) xs) e in
    and_from (respects s x) (list_all (respects s) xs) (respects_more r s more x p.0) (all_respected_more r s more xs p.1)
