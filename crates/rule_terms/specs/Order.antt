-- A total order of terms, places and parts: by constructor, then by numbers and arguments from the left.
-- Two terms are equal exactly where neither is before the other.
use Rattle.std.specs.Prelude.{ℕ, Bool, ◌==◌, ◌&&◌}
use Rattle.std.specs.Ordering.{nat_cmp, int_cmp, ordering_then, is_eq}
use Rattle.std.specs.declared.cmp.Ordering.{Ordering}
use Rattle.std.specs.declared.cmp.Ordering.TheVariants.{Less, Equal, Greater}
use Rattle.rule_terms.specs.Term.{StoreTerm, left_store, right_store, put, run, ValueTerm, num, get, ev, add, sub, mul, ValueTerms, no_terms, term, Place}
use Rattle.rule_terms.specs.Parts.{Part, a_store, a_value, a_place, an_expr, a_test}

abbrev pub store_rank : StoreTerm → ℕ
store_rank left_store = 0
store_rank right_store = 1
store_rank (put s x is v) = 2
store_rank (run k s) = 3

abbrev pub value_rank : ValueTerm → ℕ
value_rank (num z) = 0
value_rank (get x is s) = 1
value_rank (ev k s) = 2
value_rank (add a b) = 3
value_rank (sub a b) = 4
value_rank (mul a b) = 5

unfoldable mutual
  pub store_cmp : StoreTerm → StoreTerm → Ordering
  store_cmp (put s x is v) (put t y js w) = ordering_then (nat_cmp x y) (ordering_then (store_cmp s t) (ordering_then (terms_cmp is js) (value_cmp v w)))
  store_cmp (run j s) (run k t) = ordering_then (nat_cmp j k) (store_cmp s t)
  store_cmp s t = nat_cmp (store_rank s) (store_rank t)

  pub value_cmp : ValueTerm → ValueTerm → Ordering
  value_cmp (num y) (num z) = int_cmp y z
  value_cmp (get x is s) (get y js t) = ordering_then (nat_cmp x y) (ordering_then (terms_cmp is js) (store_cmp s t))
  value_cmp (ev j s) (ev k t) = ordering_then (nat_cmp j k) (store_cmp s t)
  value_cmp (add a b) (add c d) = ordering_then (value_cmp a c) (value_cmp b d)
  value_cmp (sub a b) (sub c d) = ordering_then (value_cmp a c) (value_cmp b d)
  value_cmp (mul a b) (mul c d) = ordering_then (value_cmp a c) (value_cmp b d)
  value_cmp v w = nat_cmp (value_rank v) (value_rank w)

  pub terms_cmp : ValueTerms → ValueTerms → Ordering
  terms_cmp no_terms no_terms = Equal
  terms_cmp no_terms (term w ws) = Less
  terms_cmp (term v vs) no_terms = Greater
  terms_cmp (term v vs) (term w ws) = ordering_then (value_cmp v w) (terms_cmp vs ws)

abbrev pub place_cmp : Place → Place → Ordering
place_cmp p q = ordering_then (nat_cmp p.name q.name) (terms_cmp p.indices q.indices)

abbrev pub part_rank : Part → ℕ
part_rank (a_store s) = 0
part_rank (a_place p) = 1
part_rank (an_expr k) = 2
part_rank (a_test k) = 3
part_rank (a_value v) = 4

-- store terms first, then places and parameters, then value terms
unfoldable pub part_cmp : Part → Part → Ordering
part_cmp (a_store s) (a_store t) = store_cmp s t
part_cmp (a_place p) (a_place q) = place_cmp p q
part_cmp (an_expr j) (an_expr k) = nat_cmp j k
part_cmp (a_test j) (a_test k) = nat_cmp j k
part_cmp (a_value v) (a_value w) = value_cmp v w
part_cmp p q = nat_cmp (part_rank p) (part_rank q)

-- equality as a test
abbrev pub store_same : StoreTerm → StoreTerm → Bool
store_same s t = is_eq (store_cmp s t)

abbrev pub value_same : ValueTerm → ValueTerm → Bool
value_same v w = is_eq (value_cmp v w)

abbrev pub place_same : Place → Place → Bool
place_same p q = is_eq (place_cmp p q)

abbrev pub part_same : Part → Part → Bool
part_same p q = is_eq (part_cmp p q)

abbrev pub test_same : ℕ × StoreTerm → ℕ × StoreTerm → Bool
test_same a b = b.0 == a.0 && store_same a.1 b.1
