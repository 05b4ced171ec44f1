-- The nodes of items by numbers of a pool are those of the items for which they stand.
use Rattle.std.specs.Prelude.{◌≡◌, ℕ, suc, ◌+◌, true, ◌&&◌, List, [], ◌∷◌, map, Option, Some, None, slice_get, refl}
use Rattle.std.specs.List.{list_all}
use Rattle.std.proofs.Common.{ap, arith}
use Rattle.rule_terms.specs.Counts.{saturated, store_nodes, value_nodes, atom_nodes, literals_nodes, gives_nodes, conjunct_nodes, conjuncts_nodes, obligation_nodes}
use Rattle.term_pool.specs.declared.node.Node.{Node}
use Rattle.term_pool.specs.declared.pooled.PooledAtom.{PooledAtom}
use Rattle.term_pool.specs.declared.pooled.PooledAtom.TheVariants.{SameName, SameStore, SameValue, AtMost, Ends, Holds}
use Rattle.term_pool.specs.declared.pooled.PooledLiteral.{PooledLiteral}
use Rattle.term_pool.specs.declared.pooled.PooledConjunct.{PooledConjunct}
use Rattle.term_pool.specs.declared.pooled.PooledObligation.{PooledObligation}
use Rattle.term_pool.specs.Numbered.{Term, store_numbered, value_numbered, terms_of_nodes, has_store, has_value}
use Rattle.term_pool.specs.Kept.{nodes_there}
use Rattle.term_pool.specs.Pooled.{atom_in, atom_numbered, literal_in, literal_numbered, gives_in, gives_numbered, conjunct_in, conjunct_numbered, obligation_in, obligation_numbered}
use Rattle.term_pool.proofs.Places.{both}
use Rattle.term_pool.proofs.Grown.{store_found, value_found}
use Rattle.pool_goals.specs.Nodes.{atom_found, literals_found, gives_found, conjunct_found, conjuncts_found}

module _ (ts : List Term) where
  store_counted : (n : ℕ) → has_store ts n ≡ true → nodes_there (slice_get ts n) ≡ store_nodes (store_numbered ts n)
  store_counted n h = ap nodes_there (store_found ts n h)

  value_counted : (n : ℕ) → has_value ts n ≡ true → nodes_there (slice_get ts n) ≡ value_nodes (value_numbered ts n)
  value_counted n h = ap nodes_there (value_found ts n h)

  atom_counted : (x : PooledAtom) → atom_in ts x ≡ true → atom_found ts x ≡ atom_nodes (atom_numbered ts x)
  unfolding atom_in atom_numbered atom_found atom_nodes
  atom_counted (SameName x y) h = refl
  atom_counted (SameStore a b) h = let c = both (has_store ts a) (has_store ts b) h in λ j. store_counted a c.0 j + store_counted b c.1 j
  atom_counted (SameValue a b) h = let c = both (has_value ts a) (has_value ts b) h in λ j. value_counted a c.0 j + value_counted b c.1 j
  atom_counted (AtMost a b z) h = let c = both (has_value ts a) (has_value ts b) h in λ j. value_counted a c.0 j + value_counted b c.1 j
  atom_counted (Ends s) h = store_counted s h
  atom_counted (Holds k s) h = store_counted s h

  literals_counted : (xs : List PooledLiteral) → list_all (literal_in ts) xs ≡ true → literals_found ts xs ≡ literals_nodes (map (literal_numbered ts) xs)
  literals_counted [] h = refl
  literals_counted (x ∷ xs) h =
      let b = both (literal_in ts x) (list_all (literal_in ts) xs) h in
      λ j. suc (atom_counted x.atom b.0 j) + literals_counted xs b.1 j

  gives_counted : (x : Option PooledLiteral) → gives_in ts x ≡ true → gives_found ts x ≡ gives_nodes (gives_numbered ts x)
  gives_counted None h = refl
  gives_counted (Some x) h = ap suc (atom_counted x.atom h)

  one_counted : (c : PooledConjunct) → conjunct_in ts c ≡ true → conjunct_found ts c ≡ conjunct_nodes (conjunct_numbered ts c)
  one_counted c h =
      let b = both (list_all (literal_in ts) c.when) (gives_in ts c.gives) h in
      λ j. literals_counted c.when b.0 j + gives_counted c.gives b.1 j

  conjuncts_counted : (cs : List PooledConjunct) → list_all (conjunct_in ts) cs ≡ true → conjuncts_found ts cs ≡ conjuncts_nodes (map (conjunct_numbered ts) cs)
  conjuncts_counted [] h = refl
  conjuncts_counted (c ∷ cs) h =
      let b = both (conjunct_in ts c) (list_all (conjunct_in ts) cs) h in
      λ j. one_counted c b.0 j + conjuncts_counted cs b.1 j

pub conjunct_counted : (ts : List Term) (c : PooledConjunct) → conjunct_in ts c ≡ true → saturated (conjunct_found ts c) ≡ saturated (conjunct_nodes (conjunct_numbered ts c))
conjunct_counted ts c h = ap saturated (one_counted ts c h)

pub obligation_counted : (ns : List Node) (ob : PooledObligation) → obligation_in ns ob ≡ true
    → saturated (saturated (conjuncts_found (terms_of_nodes ns) ob.known) + saturated (saturated (literals_found (terms_of_nodes ns) ob.path) + saturated (conjunct_found (terms_of_nodes ns) ob.goal)))
    ≡ saturated (obligation_nodes (obligation_numbered ns ob))
obligation_counted ns ob h =
    let ts = terms_of_nodes ns in
    let b = both (list_all (conjunct_in ts) ob.known) (list_all (literal_in ts) ob.path && conjunct_in ts ob.goal) h in
    let c = both (list_all (literal_in ts) ob.path) (conjunct_in ts ob.goal) b.1 in
    omega (arith, conjuncts_counted ts ob.known b.0, literals_counted ts ob.path c.0, one_counted ts ob.goal c.1)
