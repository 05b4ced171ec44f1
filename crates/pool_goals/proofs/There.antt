-- A term that has a number has all its parts in the pool, so putting it there once more adds nothing.
use Rattle.std.specs.Prelude.{◌≡◌, ℕ, true, ◌&&◌, List, [], ◌∷◌, Some, slice_get, ⊤}
use Rattle.std.proofs.Common.{sym, ◌∙◌, subst}
use Rattle.std.proofs.lemmas.Option.{same_Some}
use Rattle.rule_terms.specs.Term.{StoreTerm, left_store, right_store, put, run, ValueTerm, num, get, ev, add, sub, mul, ValueTerms, no_terms, term}
use Rattle.term_pool.specs.declared.node.Node.{Node}
use Rattle.term_pool.specs.declared.node.Node.TheVariants.{L, R, Put, Run, Num, Get, Ev, Add, Sub, Mul}
use Rattle.term_pool.specs.Numbered.{Term, a_store, a_value, store_numbered, value_numbered, values_numbered, built, terms_of_nodes, has_store, has_value, has_values, names_earlier, IsPool}
use Rattle.term_pool.specs.Growth.{Adds, store_terms, value_terms, indices_terms}
use Rattle.term_pool.proofs.Places.{both}
use Rattle.term_pool.proofs.Grown.{store_found, value_found, stands_built, stands_names}
use Rattle.term_pool.proofs.Different.{number_has_node, node_stands}
use Rattle.term_pool.proofs.Growing.{adds_both, adds_nothing, adds_known}
use Rattle.pool_goals.specs.Replaced.{term_terms}

module _ (ns : List Node) (pool : IsPool ns) where
  abbrev There : Term → Type 0
  There t = (i : ℕ) × (slice_get (terms_of_nodes ns) i ≡ Some t)

  abbrev AllThere : ValueTerms → Type 0
  AllThere no_terms = ⊤
  AllThere (term v vs) = There (a_value v) × AllThere vs

  -- the parts of a term have numbers
  abbrev PartsThere : Term → Type 0
  PartsThere (a_store left_store) = ⊤
  PartsThere (a_store right_store) = ⊤
  PartsThere (a_store (put s x is v)) = There (a_store s) × (AllThere is × There (a_value v))
  PartsThere (a_store (run k s)) = There (a_store s)
  PartsThere (a_value (num z)) = ⊤
  PartsThere (a_value (get x is s)) = AllThere is × There (a_store s)
  PartsThere (a_value (ev k s)) = There (a_store s)
  PartsThere (a_value (add v w)) = There (a_value v) × There (a_value w)
  PartsThere (a_value (sub v w)) = There (a_value v) × There (a_value w)
  PartsThere (a_value (mul v w)) = There (a_value v) × There (a_value w)

  store_there : (n : ℕ) → has_store (terms_of_nodes ns) n ≡ true → There (a_store (store_numbered (terms_of_nodes ns) n))
  store_there n h = (n, store_found (terms_of_nodes ns) n h)

  value_there : (n : ℕ) → has_value (terms_of_nodes ns) n ≡ true → There (a_value (value_numbered (terms_of_nodes ns) n))
  value_there n h = (n, value_found (terms_of_nodes ns) n h)

  values_there : (js : List ℕ) → has_values (terms_of_nodes ns) js ≡ true → AllThere (values_numbered (terms_of_nodes ns) js)
  unfolding has_values values_numbered
  values_there [] h = tt
  values_there (n ∷ js) h = let b = both (has_value (terms_of_nodes ns) n) (has_values (terms_of_nodes ns) js) h in (value_there n b.0, values_there js b.1)

  two_there : (a b : ℕ) → (has_value (terms_of_nodes ns) a && has_value (terms_of_nodes ns) b) ≡ true
      → There (a_value (value_numbered (terms_of_nodes ns) a)) × There (a_value (value_numbered (terms_of_nodes ns) b))
  two_there a b h = let c = both (has_value (terms_of_nodes ns) a) (has_value (terms_of_nodes ns) b) h in (value_there a c.0, value_there b c.1)

  node_parts : (n : Node) → names_earlier (terms_of_nodes ns) n ≡ true → PartsThere (built (terms_of_nodes ns) n)
  unfolding built names_earlier
  node_parts L h = tt
  node_parts R h = tt
  node_parts (Put s p v) h =
      let b = both (has_store (terms_of_nodes ns) s) (has_values (terms_of_nodes ns) p.indices && has_value (terms_of_nodes ns) v) h in
      let c = both (has_values (terms_of_nodes ns) p.indices) (has_value (terms_of_nodes ns) v) b.1 in
      (store_there s b.0, (values_there p.indices c.0, value_there v c.1))
  node_parts (Run k s) h = store_there s h
  node_parts (Num z) h = tt
  node_parts (Get p s) h =
      let b = both (has_values (terms_of_nodes ns) p.indices) (has_store (terms_of_nodes ns) s) h in
      (values_there p.indices b.0, store_there s b.1)
  node_parts (Ev k s) h = store_there s h
  node_parts (Add a b) h = two_there a b h
  node_parts (Sub a b) h = two_there a b h
  node_parts (Mul a b) h = two_there a b h

  parts : (t : Term) → There t → PartsThere t
  parts t h =
      let n = number_has_node ns h.0 t h.1 in
      let s = node_stands ns h.0 n.0 pool n.1 in
      subst PartsThere (same_Some (built (terms_of_nodes ns) n.0) t (sym (stands_built s) ∙ h.1)) (node_parts n.0 (stands_names s))

  mutual
    unfolding store_terms

    store_all : (s : StoreTerm) → There (a_store s) → Adds ns ns (store_terms s)
    store_all left_store h = adds_known ns (a_store left_store) h.0 h.1
    store_all right_store h = adds_known ns (a_store right_store) h.0 h.1
    store_all (put s x is v) h =
        let p = parts (a_store (put s x is v)) h in
        adds_both (adds_both (store_all s p.0) (adds_both (terms_all is p.1.0) (value_all v p.1.1))) (adds_known ns (a_store (put s x is v)) h.0 h.1)
    store_all (run k s) h = adds_both (store_all s (parts (a_store (run k s)) h)) (adds_known ns (a_store (run k s)) h.0 h.1)

    value_all : (v : ValueTerm) → There (a_value v) → Adds ns ns (value_terms v)
    value_all (num z) h = adds_known ns (a_value (num z)) h.0 h.1
    value_all (get x is s) h =
        let p = parts (a_value (get x is s)) h in
        adds_both (adds_both (terms_all is p.0) (store_all s p.1)) (adds_known ns (a_value (get x is s)) h.0 h.1)
    value_all (ev k s) h = adds_both (store_all s (parts (a_value (ev k s)) h)) (adds_known ns (a_value (ev k s)) h.0 h.1)
    value_all (add v w) h =
        let p = parts (a_value (add v w)) h in
        adds_both (adds_both (value_all v p.0) (value_all w p.1)) (adds_known ns (a_value (add v w)) h.0 h.1)
    value_all (sub v w) h =
        let p = parts (a_value (sub v w)) h in
        adds_both (adds_both (value_all v p.0) (value_all w p.1)) (adds_known ns (a_value (sub v w)) h.0 h.1)
    value_all (mul v w) h =
        let p = parts (a_value (mul v w)) h in
        adds_both (adds_both (value_all v p.0) (value_all w p.1)) (adds_known ns (a_value (mul v w)) h.0 h.1)

    terms_all : (vs : ValueTerms) → AllThere vs → Adds ns ns (indices_terms vs)
    terms_all no_terms h = adds_nothing ns
    terms_all (term v vs) h = adds_both (value_all v h.0) (terms_all vs h.1)

  pub adds_there : (i : ℕ) (t : Term) → slice_get (terms_of_nodes ns) i ≡ Some t → Adds ns ns (term_terms t)
  adds_there i (a_store s) h = store_all s (i, h)
  adds_there i (a_value v) h = value_all v (i, h)
