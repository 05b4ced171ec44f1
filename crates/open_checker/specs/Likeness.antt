-- Terms of one constructor and parameter whose arguments agree, which then agree themselves in an escape.
use Rattle.std.specs.Prelude.{Bool, true, false, not, ◌==◌, ◌&&◌, ◌||◌, List}
use Rattle.std.specs.Ordering.{int_eq}
use Rattle.std.specs.List.{list_all}
use Rattle.toy_imp.specs.declared.param.Kind.{Kind}
use Rattle.rule_terms.specs.Term.{StoreTerm, left_store, right_store, put, run, ValueTerm, num, get, ev, add, sub, mul, ValueTerms, no_terms, term}
use Rattle.escape_marks.specs.declared.escape.StoreMark.{StoreMark}
use Rattle.escape_marks.specs.declared.escape.ValueMark.{ValueMark}
use Rattle.escape_marks.specs.declared.escape.Escape.{Escape}
use Rattle.escape_marks.specs.Marks.{store_mark, value_mark, names_agree, one_class, one_value}

module _ (params : List Kind) (e : Escape) where
  -- stores agree by their classes, values by their numbers
  abbrev pub stores_agree : StoreTerm → StoreTerm → Bool
  stores_agree a b = one_class (store_mark e.stores a) (store_mark e.stores b)

  abbrev pub values_agree : ValueTerm → ValueTerm → Bool
  values_agree a b = one_value (value_mark e.values a) (value_mark e.values b)

  -- as many indices, which agree one by one
  unfoldable pub indices_agree : ValueTerms → ValueTerms → Bool
  indices_agree no_terms no_terms = true
  indices_agree (term v vs) (term w ws) = values_agree v w && indices_agree vs ws
  indices_agree _ _ = false

  -- one constructor and parameter, and arguments that agree
  unfoldable pub like_stores : StoreTerm → StoreTerm → Bool
  like_stores left_store left_store = true
  like_stores right_store right_store = true
  like_stores (put s x is v) (put t y js w) = names_agree params e x y && (stores_agree s t && (indices_agree is js && values_agree v w))
  like_stores (run j s) (run k t) = j == k && stores_agree s t
  like_stores _ _ = false

  unfoldable pub like_values : ValueTerm → ValueTerm → Bool
  like_values (num y) (num z) = int_eq y z
  like_values (get x is s) (get y js t) = names_agree params e x y && (stores_agree s t && indices_agree is js)
  like_values (ev j s) (ev k t) = j == k && stores_agree s t
  like_values (add a b) (add c d) = values_agree a c && values_agree b d
  like_values (sub a b) (sub c d) = values_agree a c && values_agree b d
  like_values (mul a b) (mul c d) = values_agree a c && values_agree b d
  like_values _ _ = false

  -- the terms of two marks are not alike, or are of one class
  unfoldable pub store_agrees_with : StoreMark → StoreMark → Bool
  store_agrees_with m n = m.class == n.class || not (like_stores m.store n.store)

  unfoldable pub value_agrees_with : ValueMark → ValueMark → Bool
  value_agrees_with m n = int_eq m.number n.number || not (like_values m.value n.value)

  -- .. with each mark
  unfoldable pub store_agrees : StoreMark → Bool
  store_agrees m = list_all (store_agrees_with m) e.stores

  unfoldable pub value_agrees : ValueMark → Bool
  value_agrees m = list_all (value_agrees_with m) e.values
