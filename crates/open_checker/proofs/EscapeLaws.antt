-- The laws of the points: the mark of a term meets what all marks meet.
use Rattle.std.proofs.Common.{◌≡◌, Bool, true, false, cond, not, ◌==◌, ◌||◌, List, [], ◌∷◌, Option, Some, None, is_some, sym, ap, subst, refl, true≢false}
use Rattle.std.specs.List.{list_all}
use Rattle.std.specs.Ordering.{int_eq}
use Rattle.std.proofs.lemmas.Bool.{and_parts}
use Rattle.toy_imp.specs.declared.param.Kind.{Kind}
use Rattle.rule_terms.specs.Term.{StoreTerm, ValueTerm}
use Rattle.rule_terms.specs.Order.{store_same, value_same}
use Rattle.law_clauses.proofs.Same.{store_is, value_is}
use Rattle.escape_marks.specs.declared.escape.StoreMark.{StoreMark}
use Rattle.escape_marks.specs.declared.escape.ValueMark.{ValueMark}
use Rattle.escape_marks.specs.declared.escape.Escape.{Escape}
use Rattle.escape_marks.specs.Marks.{store_mark, value_mark, one_class, one_value, ending, atom_true}
use Rattle.open_checker.specs.Likeness.{like_stores, like_values, store_agrees_with, value_agrees_with, store_agrees, value_agrees}
use Rattle.open_checker.specs.Points.{same_flag, ends_alike, ends_as_its_class}
use Rattle.open_checker.specs.EscapeLaws.{EqualStoresEndAlike, LikeStoresAreEqual, LikeValuesAreEqual}

none_is : {X : Type 0} (x : X) → None ≡ Some x → true ≡ false
none_is x e = sym (ap is_some e)

some_is : {X : Type 0} (x y : X) → Some x ≡ Some y → x ≡ y
some_is x y e = cc

-- what all marks pass, the mark of a term passes, and it is a mark of that term
store_passes : (p : StoreMark → Bool) (ms : List StoreMark) (s : StoreTerm) (m : StoreMark) → store_mark ms s ≡ Some m → list_all p ms ≡ true → (p m ≡ true) × (s ≡ m.store)
unfolding store_mark
store_passes p [] s m e h = absurd (true≢false (none_is m e))
store_passes p (x ∷ ms) s m e h = by_test (store_same s x.store) refl e (λ f. store_passes p ms s m f (and_parts (p x) (list_all p ms) h).1)
  where
    by_test : (t : Bool) → store_same s x.store ≡ t → cond t (Some x) (store_mark ms s) ≡ Some m → (store_mark ms s ≡ Some m → (p m ≡ true) × (s ≡ m.store)) → (p m ≡ true) × (s ≡ m.store)
    by_test true is f more = subst (λ (y : StoreMark). (p y ≡ true) × (s ≡ y.store)) (some_is x m f) ((and_parts (p x) (list_all p ms) h).0, store_is s x.store is)
    by_test false is f more = more f

value_passes : (p : ValueMark → Bool) (ms : List ValueMark) (v : ValueTerm) (m : ValueMark) → value_mark ms v ≡ Some m → list_all p ms ≡ true → (p m ≡ true) × (v ≡ m.value)
unfolding value_mark
value_passes p [] v m e h = absurd (true≢false (none_is m e))
value_passes p (x ∷ ms) v m e h = by_test (value_same v x.value) refl e (λ f. value_passes p ms v m f (and_parts (p x) (list_all p ms) h).1)
  where
    by_test : (t : Bool) → value_same v x.value ≡ t → cond t (Some x) (value_mark ms v) ≡ Some m → (value_mark ms v ≡ Some m → (p m ≡ true) × (v ≡ m.value)) → (p m ≡ true) × (v ≡ m.value)
    by_test true is f more = subst (λ (y : ValueMark). (p y ≡ true) × (v ≡ y.value)) (some_is x m f) ((and_parts (p x) (list_all p ms) h).0, value_is v x.value is)
    by_test false is f more = more f

-- two flags of one class
flags_are : (one p q : Bool) → one ≡ true → (not one || same_flag p q) ≡ true → p ≡ q
flags_are true true true s h = refl
flags_are true true false s h = absurd (true≢false (sym h))
flags_are true false true s h = absurd (true≢false (sym h))
flags_are true false false s h = refl
flags_are false p q s h = absurd (true≢false (sym s))

ends_row : (stores : List StoreMark) (m : StoreMark) → ends_as_its_class stores m ≡ true → list_all (ends_alike m) stores ≡ true
unfolding ends_as_its_class
ends_row stores m h = h

marks_end_alike : (stores : List StoreMark) (a b : StoreTerm) (o q : Option StoreMark) → list_all (ends_as_its_class stores) stores ≡ true → store_mark stores a ≡ o → store_mark stores b ≡ q → one_class o q ≡ true → ending o ≡ ending q
marks_end_alike stores a b None None h f g s = refl
marks_end_alike stores a b None (Some n) h f g s = absurd (true≢false (sym s))
marks_end_alike stores a b (Some m) None h f g s = absurd (true≢false (sym s))
marks_end_alike stores a b (Some m) (Some n) h f g s =
    let row = store_passes (ends_as_its_class stores) stores a m f h in
    let here = store_passes (ends_alike m) stores b n g (ends_row stores m row.0) in
    flags_are (m.class == n.class) m.ends n.ends s here.0

pub equal_stores_end_alike : EqualStoresEndAlike
unfolding atom_true
equal_stores_end_alike params e h a b s = marks_end_alike e.stores a b (store_mark e.stores a) (store_mark e.stores b) h refl refl s

-- like terms of two marks
one_or : (one like : Bool) → like ≡ true → (one || not like) ≡ true → one ≡ true
one_or true like s h = refl
one_or false true s h = absurd (true≢false (sym h))
one_or false false s h = absurd (true≢false (sym s))

store_row : (params : List Kind) (e : Escape) (m : StoreMark) → store_agrees params e m ≡ true → list_all (store_agrees_with params e m) e.stores ≡ true
unfolding store_agrees
store_row params e m h = h

stores_meet : (params : List Kind) (e : Escape) (m n : StoreMark) → store_agrees_with params e m n ≡ true → like_stores params e m.store n.store ≡ true → (m.class == n.class) ≡ true
unfolding store_agrees_with
stores_meet params e m n h s = one_or (m.class == n.class) (like_stores params e m.store n.store) s h

store_marks_agree : (params : List Kind) (e : Escape) (a b : StoreTerm) (o q : Option StoreMark) → list_all (store_agrees params e) e.stores ≡ true → store_mark e.stores a ≡ o → store_mark e.stores b ≡ q → is_some o ≡ true → is_some q ≡ true → like_stores params e a b ≡ true → one_class o q ≡ true
store_marks_agree params e a b None q h f g i j s = absurd (true≢false (sym i))
store_marks_agree params e a b (Some m) None h f g i j s = absurd (true≢false (sym j))
store_marks_agree params e a b (Some m) (Some n) h f g i j s =
    let row = store_passes (store_agrees params e) e.stores a m f h in
    let here = store_passes (store_agrees_with params e m) e.stores b n g (store_row params e m row.0) in
    stores_meet params e m n here.0 (subst (λ (t : StoreTerm). like_stores params e m.store t ≡ true) here.1 (subst (λ (t : StoreTerm). like_stores params e t b ≡ true) row.1 s))

pub like_stores_are_equal : LikeStoresAreEqual
unfolding atom_true
like_stores_are_equal params e h a b i j s = store_marks_agree params e a b (store_mark e.stores a) (store_mark e.stores b) h refl refl i j s

value_row : (params : List Kind) (e : Escape) (m : ValueMark) → value_agrees params e m ≡ true → list_all (value_agrees_with params e m) e.values ≡ true
unfolding value_agrees
value_row params e m h = h

values_meet : (params : List Kind) (e : Escape) (m n : ValueMark) → value_agrees_with params e m n ≡ true → like_values params e m.value n.value ≡ true → int_eq m.number n.number ≡ true
unfolding value_agrees_with
values_meet params e m n h s = one_or (int_eq m.number n.number) (like_values params e m.value n.value) s h

value_marks_agree : (params : List Kind) (e : Escape) (a b : ValueTerm) (o q : Option ValueMark) → list_all (value_agrees params e) e.values ≡ true → value_mark e.values a ≡ o → value_mark e.values b ≡ q → is_some o ≡ true → is_some q ≡ true → like_values params e a b ≡ true → one_value o q ≡ true
value_marks_agree params e a b None q h f g i j s = absurd (true≢false (sym i))
value_marks_agree params e a b (Some m) None h f g i j s = absurd (true≢false (sym j))
value_marks_agree params e a b (Some m) (Some n) h f g i j s =
    let row = value_passes (value_agrees params e) e.values a m f h in
    let here = value_passes (value_agrees_with params e m) e.values b n g (value_row params e m row.0) in
    values_meet params e m n here.0 (subst (λ (t : ValueTerm). like_values params e m.value t ≡ true) here.1 (subst (λ (t : ValueTerm). like_values params e t b ≡ true) row.1 s))

pub like_values_are_equal : LikeValuesAreEqual
unfolding atom_true
like_values_are_equal params e h a b i j s = value_marks_agree params e a b (value_mark e.values a) (value_mark e.values b) h refl refl i j s
