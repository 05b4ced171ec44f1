-- The marks and the universe as tests of what occurs in an obligation, part by part.
use Rattle.std.specs.Prelude.{ℕ, pos, Bool, false, not, ◌==◌, ◌&&◌, ◌||◌, List, is_some}
use Rattle.std.specs.List.{list_all, list_any}
use Rattle.toy_imp.specs.declared.condition.Condition.{Condition}
use Rattle.rule_terms.specs.Term.{StoreTerm, left_store, right_store, ValueTerm, num, get, ev}
use Rattle.rule_terms.specs.Order.{store_same, value_same, place_same}
use Rattle.rule_terms.specs.Parts.{Part, a_store, a_value, a_place, an_expr, a_test, obligation_parts}
use Rattle.rule_terms.specs.declared.obligation.Obligation.{Obligation}
use Rattle.term_universe.specs.Universe.{exchanged}
use Rattle.law_clauses.specs.Shapes.{place}
use Rattle.escape_marks.specs.declared.escape.StoreMark.{StoreMark}
use Rattle.escape_marks.specs.declared.escape.ValueMark.{ValueMark}
use Rattle.escape_marks.specs.declared.escape.TestMark.{TestMark}
use Rattle.escape_marks.specs.declared.escape.Escape.{Escape}
use Rattle.escape_marks.specs.Marks.{store_mark, value_mark, test_mark}

-- one part of the two kinds is the other
unfoldable pub same_part : Part → Part → Bool
same_part (a_value v) (a_value w) = value_same v w
same_part (a_place p) (a_place q) = place_same p q
same_part (an_expr j) (an_expr k) = j == k
same_part (a_test j) (a_test k) = j == k
same_part _ _ = false

-- the store term is this part, or an exchange of it
unfoldable pub is_near : List Condition → StoreTerm → Part → Bool
is_near cs t (a_store s) = store_same t s || list_any (store_same t) (exchanged cs s)
is_near cs t _ = false

abbrev pub has_store : Escape → StoreTerm → Bool
has_store e s = is_some (store_mark e.stores s)

abbrev pub has_value : Escape → ValueTerm → Bool
has_value e v = is_some (value_mark e.values v)

abbrev pub has_test : Escape → ℕ → StoreTerm → Bool
has_test e k s = is_some (test_mark e.tests k s)

-- all that a part brings into the universe has marks, at the stores that have marks
unfoldable pub is_covered : List Condition → Escape → Part → Bool
is_covered cs e (a_store s) = has_store e s && list_all (has_store e) (exchanged cs s)
is_covered cs e (a_value v) = has_value e v
is_covered cs e (a_place p) = list_all (λ (m : StoreMark). has_value e (get p.name p.indices m.store)) e.stores
is_covered cs e (an_expr k) = list_all (λ (m : StoreMark). has_value e (ev k m.store)) e.stores
is_covered cs e (a_test k) = list_all (λ (m : StoreMark). has_test e k m.store) e.stores

abbrev pub uncovered : List Condition → Escape → Part → Bool
uncovered cs e p = not (is_covered cs e p)

module _ (ob : Obligation) (e : Escape) where
  abbrev pub occurs : Part → Bool
  occurs p = list_any (same_part p) (obligation_parts ob)

  -- all of the universe has marks
  unfoldable pub covers : Bool
  covers = has_store e left_store && (has_store e right_store && (has_value e (num (pos 0)) && (has_value e (num (pos 1)) && not (list_any (uncovered ob.conditions e) (obligation_parts ob)))))

  -- a store term of the universe
  unfoldable pub store_there : StoreTerm → Bool
  store_there t = store_same t left_store || (store_same t right_store || list_any (is_near ob.conditions t) (obligation_parts ob))

  -- what is read of a store that has a mark
  unfoldable pub is_read : ValueTerm → Bool
  is_read (get x is s) = has_store e s && occurs (a_place (place x is))
  is_read (ev k s) = has_store e s && occurs (an_expr k)
  is_read _ = false

  unfoldable pub value_there : ValueTerm → Bool
  value_there v = is_read v || (value_same v (num (pos 0)) || (value_same v (num (pos 1)) || occurs (a_value v)))

  unfoldable pub test_there : ℕ → StoreTerm → Bool
  test_there k s = has_store e s && occurs (a_test k)

  unfoldable pub stores_there : Bool
  stores_there = list_all (λ (m : StoreMark). store_there m.store) e.stores

  unfoldable pub values_there : Bool
  values_there = list_all (λ (m : ValueMark). value_there m.value) e.values

  unfoldable pub tests_there : Bool
  tests_there = list_all (λ (m : TestMark). test_there m.test m.store) e.tests

  -- the terms with marks and those of the universe are the same
  unfoldable pub marks_match : Bool
  marks_match = covers && (stores_there && (values_there && tests_there))
