-- A clause of which some literal is true or speaks of a term without a mark, and what the mark of a term passes.
use Rattle.std.proofs.Common.{◌≡◌, Bool, true, false, cond, not, ◌||◌, List, [], ◌∷◌, Some, is_some, sym, ap, ◌∙◌, subst, refl, true≢false}
use Rattle.std.specs.List.{list_all, list_any}
use Rattle.std.proofs.lemmas.Bool.{and_parts, and_from}
use Rattle.toy_imp.specs.declared.param.Kind.{Kind}
use Rattle.rule_terms.specs.Term.{StoreTerm, ValueTerm}
use Rattle.rule_terms.specs.Order.{store_same, value_same}
use Rattle.law_clauses.specs.Signed.{Signed, plus, minus}
use Rattle.law_clauses.proofs.Same.{store_is, value_is}
use Rattle.escape_marks.specs.declared.escape.StoreMark.{StoreMark}
use Rattle.escape_marks.specs.declared.escape.ValueMark.{ValueMark}
use Rattle.escape_marks.specs.declared.escape.Escape.{Escape}
use Rattle.escape_marks.specs.Marks.{store_mark, value_mark, signed_true}
use Rattle.escape_marks.specs.LawsHold.{signed_marked, is_kept, clause_kept}

-- a literal is kept exactly where it is true or not marked
kept_is : (params : List Kind) (e : Escape) (x : Signed) → is_kept params e x ≡ (not (signed_marked e x) || signed_true params e x)
unfolding is_kept
kept_is params e (plus a) = refl
kept_is params e (minus a) = refl

one_more : (m t k more : Bool) → m ≡ true → k ≡ (not m || t) → (k || more) ≡ true → (more ≡ true → (t || more) ≡ true) → (t || more) ≡ true
one_more m true k more a e h f = refl
one_more m false k true a e h f = refl
one_more m false true false a e h f = absurd (true≢false (e ∙ ap (λ b. not b || false) a))
one_more m false false false a e h f = absurd (true≢false (sym h))

weaker : (t more any : Bool) → (t || more) ≡ true → (more ≡ true → any ≡ true) → (t || any) ≡ true
weaker true more any h f = refl
weaker false more any h f = f h

pub true_of_kept : (params : List Kind) (e : Escape) (xs : List Signed) → list_all (signed_marked e) xs ≡ true → clause_kept params e xs ≡ true → list_any (signed_true params e) xs ≡ true
true_of_kept params e [] m k = k
true_of_kept params e (x ∷ xs) m k =
    let parts = and_parts (signed_marked e x) (list_all (signed_marked e) xs) m in
    weaker (signed_true params e x) (clause_kept params e xs) (list_any (signed_true params e) xs)
    (one_more (signed_marked e x) (signed_true params e x) (is_kept params e x) (clause_kept params e xs) parts.0 (kept_is params e x) k (λ f. or_last (signed_true params e x) f))
    (λ f. true_of_kept params e xs parts.1 f)
  where
    or_last : (t : Bool) {b : Bool} → b ≡ true → (t || b) ≡ true
    or_last true f = refl
    or_last false f = f

kept_one : (m t k any kept : Bool) → k ≡ (not m || t) → (m ≡ true → t ≡ false → kept ≡ true) → (k || kept) ≡ true
kept_one true true k any kept e f = ap (λ b. b || kept) e
kept_one true false true any kept e f = refl
kept_one true false false any kept e f = f refl refl
kept_one false t k any kept e f = ap (λ b. b || kept) e

pub kept_of_true : (params : List Kind) (e : Escape) (xs : List Signed) → (list_all (signed_marked e) xs ≡ true → list_any (signed_true params e) xs ≡ true) → clause_kept params e xs ≡ true
kept_of_true params e [] f = f refl
kept_of_true params e (x ∷ xs) f =
    kept_one (signed_marked e x) (signed_true params e x) (is_kept params e x) (list_any (signed_true params e) xs) (clause_kept params e xs) (kept_is params e x)
    (λ m t. kept_of_true params e xs (λ more. rest (signed_true params e x) (list_any (signed_true params e) xs) t (f (and_from (signed_marked e x) (list_all (signed_marked e) xs) m more))))
  where
    rest : (t any : Bool) → t ≡ false → (t || any) ≡ true → any ≡ true
    rest true any g h = absurd (true≢false g)
    rest false any g h = h

-- what all marks pass, a term that has a mark passes
pub store_passes : (p : StoreTerm → Bool) (ms : List StoreMark) (s : StoreTerm) → list_all (λ (m : StoreMark). p m.store) ms ≡ true → is_some (store_mark ms s) ≡ true → p s ≡ true
unfolding store_mark
store_passes p [] s h k = absurd (true≢false (sym k))
store_passes p (x ∷ ms) s h k =
    let parts = and_parts (p x.store) (list_all (λ (m : StoreMark). p m.store) ms) h in
    by_test (store_same s x.store) refl k parts.0 (λ f. store_passes p ms s parts.1 f)
  where
    by_test : (t : Bool) → store_same s x.store ≡ t → is_some (cond t (Some x) (store_mark ms s)) ≡ true → p x.store ≡ true → (is_some (store_mark ms s) ≡ true → p s ≡ true) → p s ≡ true
    by_test true is f here more = subst (λ (y : StoreTerm). p y ≡ true) (sym (store_is s x.store is)) here
    by_test false is f here more = more f

pub value_passes : (p : ValueTerm → Bool) (ms : List ValueMark) (s : ValueTerm) → list_all (λ (m : ValueMark). p m.value) ms ≡ true → is_some (value_mark ms s) ≡ true → p s ≡ true
unfolding value_mark
value_passes p [] s h k = absurd (true≢false (sym k))
value_passes p (x ∷ ms) s h k =
    let parts = and_parts (p x.value) (list_all (λ (m : ValueMark). p m.value) ms) h in
    by_test (value_same s x.value) refl k parts.0 (λ f. value_passes p ms s parts.1 f)
  where
    by_test : (t : Bool) → value_same s x.value ≡ t → is_some (cond t (Some x) (value_mark ms s)) ≡ true → p x.value ≡ true → (is_some (value_mark ms s) ≡ true → p s ≡ true) → p s ≡ true
    by_test true is f here more = subst (λ (y : ValueTerm). p y ≡ true) (sym (value_is s x.value is)) here
    by_test false is f here more = more f

pub all_pass : {X : Type 0} (p : X → Bool) (xs : List X) → ((x : X) → p x ≡ true) → list_all p xs ≡ true
all_pass p [] f = refl
all_pass p (x ∷ xs) f = and_from (p x) (list_all p xs) (f x) (all_pass p xs f)
