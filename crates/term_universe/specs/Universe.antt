-- The universe of an obligation: the terms that occur in it, the store terms that one exchange makes of them, and each reading at each store.
-- An exchange is allowed by a listed condition; the store terms of the obligation alone are exchanged, and each only once.
use Rattle.std.specs.Prelude.{◌≢◌, ◌↔◌, ℕ, pos, cond, List, [], ◌∷◌, ◌++◌, Contains, AllPairs}
use Rattle.std.specs.List.{flat_map}
use Rattle.toy_imp.specs.declared.condition.Condition.{Condition}
use Rattle.rule_terms.specs.Term.{StoreTerm, left_store, right_store, put, run, ValueTerm, num, get, ev}
use Rattle.rule_terms.specs.Parts.{Part, a_place, an_expr, a_test, obligation_parts, stores_among, values_among}
use Rattle.rule_terms.specs.Listed.{commute, ignores}
use Rattle.rule_terms.specs.declared.obligation.Obligation.{Obligation}
use Rattle.term_universe.specs.declared.term_universe.TermUniverse.{TermUniverse}

-- a run behind a run that commutes with it, in the other order
unfoldable pub commuted : List Condition → StoreTerm → List StoreTerm
commuted conditions (run t (run s u)) = cond (commute conditions s t) (run t u ∷ run s (run t u) ∷ []) []
commuted conditions _ = []

-- a run behind a write that it ignores, before the write
unfoldable pub run_first : List Condition → StoreTerm → List StoreTerm
run_first conditions (run k (put s x is v)) = cond (ignores conditions k x) (run k s ∷ put (run k s) x is v ∷ []) []
run_first conditions _ = []

-- a write behind a run that ignores it, before the run
unfoldable pub write_first : List Condition → StoreTerm → List StoreTerm
write_first conditions (put (run k s) x is v) = cond (ignores conditions k x) (put s x is v ∷ run k (put s x is v) ∷ []) []
write_first conditions _ = []

abbrev pub exchanged : List Condition → StoreTerm → List StoreTerm
exchanged conditions s = commuted conditions s ++ (run_first conditions s ++ write_first conditions s)

-- what is read of a store: a place, or the value of an expression parameter
abbrev pub reading : StoreTerm → Part → List ValueTerm
reading s (a_place p) = get p.name p.indices s ∷ []
reading s (an_expr k) = ev k s ∷ []
reading s _ = []

-- a test parameter at a store
abbrev pub test_of : StoreTerm → Part → List (ℕ × StoreTerm)
test_of s (a_test k) = (k, s) ∷ []
test_of s _ = []

-- the terms of a universe, some of them more than once, from what occurs in an obligation
abbrev pub stores_near : List Condition → List Part → List StoreTerm
stores_near conditions ps = left_store ∷ right_store ∷ (stores_among ps ++ flat_map (exchanged conditions) (stores_among ps))

abbrev pub values_near : List StoreTerm → List Part → List ValueTerm
values_near stores ps = num (pos 0) ∷ num (pos 1) ∷ (values_among ps ++ flat_map (λ s. flat_map (reading s) ps) stores)

abbrev pub tests_near : List StoreTerm → List Part → List (ℕ × StoreTerm)
tests_near stores ps = flat_map (λ s. flat_map (test_of s) ps) stores

unfoldable pub universe_stores : Obligation → List StoreTerm
universe_stores ob = stores_near ob.conditions (obligation_parts ob)

unfoldable pub universe_values : Obligation → List ValueTerm
universe_values ob = values_near (universe_stores ob) (obligation_parts ob)

unfoldable pub universe_tests : Obligation → List (ℕ × StoreTerm)
universe_tests ob = tests_near (universe_stores ob) (obligation_parts ob)

-- a list with the items of another, each once, in any order
pub record ListsOnce {X : Type 0} (found items : List X) : Type 0 where
  pub exact : (x : X) → Contains found x ↔ Contains items x
  pub once : AllPairs (λ x y. x ≢ y) found

pub record IsUniverse (ob : Obligation) (u : TermUniverse) : Type 0 where
  pub stores : ListsOnce u.stores (universe_stores ob)
  pub values : ListsOnce u.values (universe_values ob)
  pub tests : ListsOnce u.tests (universe_tests ob)
