-- What the points say of terms, where each mark meets them: equal stores have one flag, and like terms are equal.
use Rattle.std.specs.Prelude.{◌≡◌, ◌≢◌, true, List, is_some, AllPairs}
use Rattle.std.specs.List.{list_all}
use Rattle.toy_imp.specs.declared.param.Kind.{Kind}
use Rattle.rule_terms.specs.Term.{StoreTerm, ValueTerm}
use Rattle.rule_terms.specs.declared.obligation.Atom.TheVariants.{SameStore, SameValue, Ends}
use Rattle.escape_marks.specs.declared.escape.StoreMark.{StoreMark}
use Rattle.escape_marks.specs.declared.escape.ValueMark.{ValueMark}
use Rattle.escape_marks.specs.declared.escape.Escape.{Escape}
use Rattle.escape_marks.specs.Marks.{store_mark, value_mark, atom_true}
use Rattle.open_checker.specs.Likeness.{like_stores, like_values, store_agrees, value_agrees}
use Rattle.open_checker.specs.Once.{stores_once, values_once}
use Rattle.open_checker.specs.Points.{ends_as_its_class}

-- of two stores that are equal in an escape both end there or neither does
abbrev pub EqualStoresEndAlike : Type 0
EqualStoresEndAlike = (params : List Kind) (e : Escape) → list_all (ends_as_its_class e.stores) e.stores ≡ true → (a b : StoreTerm) → atom_true params e (SameStore a b) ≡ true → atom_true params e (Ends a) ≡ atom_true params e (Ends b)

-- like terms that have marks are equal there
abbrev pub LikeStoresAreEqual : Type 0
LikeStoresAreEqual = (params : List Kind) (e : Escape) → list_all (store_agrees params e) e.stores ≡ true → (a b : StoreTerm) → is_some (store_mark e.stores a) ≡ true → is_some (store_mark e.stores b) ≡ true → like_stores params e a b ≡ true → atom_true params e (SameStore a b) ≡ true

abbrev pub LikeValuesAreEqual : Type 0
LikeValuesAreEqual = (params : List Kind) (e : Escape) → list_all (value_agrees params e) e.values ≡ true → (a b : ValueTerm) → is_some (value_mark e.values a) ≡ true → is_some (value_mark e.values b) ≡ true → like_values params e a b ≡ true → atom_true params e (SameValue a b) ≡ true

-- marks that are listed once are of different terms
abbrev pub StoresDiffer : Type 0
StoresDiffer = (marks : List StoreMark) → stores_once marks ≡ true → AllPairs (λ (m n : StoreMark). m.store ≢ n.store) marks

abbrev pub ValuesDiffer : Type 0
ValuesDiffer = (marks : List ValueMark) → values_once marks ≡ true → AllPairs (λ (m n : ValueMark). m.value ≢ n.value) marks
