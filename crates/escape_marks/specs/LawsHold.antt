-- When the laws hold in an escape: each clause of a law all of whose terms have marks has a true literal.
use Rattle.std.specs.Prelude.{◌≡◌, ℕ, Bool, true, not, ◌&&◌, ◌||◌, List, is_some}
use Rattle.std.specs.List.{list_all, list_any}
use Rattle.toy_imp.specs.declared.param.Kind.{Kind}
use Rattle.rule_terms.specs.declared.obligation.Atom.{Atom}
use Rattle.rule_terms.specs.declared.obligation.Atom.TheVariants.{SameName, SameStore, SameValue, AtMost, Ends, Holds}
use Rattle.rule_terms.specs.declared.obligation.Obligation.{Obligation}
use Rattle.law_clauses.specs.Signed.{Signed, plus, minus}
use Rattle.law_clauses.specs.Laws.{is_clause}
use Rattle.escape_marks.specs.declared.escape.Escape.{Escape}
use Rattle.escape_marks.specs.Marks.{store_mark, value_mark, test_mark, atom_true, signed_true}

-- all terms of the atom have marks
unfoldable pub is_marked : Escape → Atom → Bool
is_marked e (SameName x y) = true
is_marked e (SameStore a b) = is_some (store_mark e.stores a) && is_some (store_mark e.stores b)
is_marked e (SameValue a b) = is_some (value_mark e.values a) && is_some (value_mark e.values b)
is_marked e (AtMost a b c) = is_some (value_mark e.values a) && is_some (value_mark e.values b)
is_marked e (Ends s) = is_some (store_mark e.stores s)
is_marked e (Holds k s) = is_some (test_mark e.tests k s)

abbrev pub signed_marked : Escape → Signed → Bool
signed_marked e (plus a) = is_marked e a
signed_marked e (minus a) = is_marked e a

pub record LawsHold (ob : Obligation) (e : Escape) : Type 0 where
  pub clause : (k : ℕ) (xs : List Signed) → is_clause ob k xs ≡ true → list_all (signed_marked e) xs ≡ true → list_any (signed_true ob.params e) xs ≡ true

-- the same of one clause, as one test: some literal is true, or speaks of a term without a mark
unfoldable pub is_kept : List Kind → Escape → Signed → Bool
is_kept params e (plus a) = not (is_marked e a) || atom_true params e a
is_kept params e (minus a) = not (is_marked e a) || not (atom_true params e a)

abbrev pub clause_kept : List Kind → Escape → List Signed → Bool
clause_kept params e xs = list_any (is_kept params e) xs
