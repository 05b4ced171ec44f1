-- Nodes and depth of an obligation by numbers, from those of the numbers of which it speaks.
use Rattle.std.specs.Prelude.{◌≡◌, ℕ, ◌+◌, max, Bool, true, ◌&&◌, List, [], ◌∷◌, ◌++◌, length, map, Option, Some, None, slice_get, refl}
use Rattle.std.specs.List.{list_all, flat_map}
use Rattle.std.proofs.Common.{sym, ◌∙◌, ap, arith}
use Rattle.rule_terms.specs.Term.{store_depth, value_depth}
use Rattle.rule_terms.specs.Counts.{store_nodes, value_nodes, atom_nodes, atom_depth, literals_nodes, literals_depth, gives_nodes, gives_depth, conjunct_nodes, conjunct_depth, conjuncts_nodes, conjuncts_depth, obligation_nodes, obligation_depth}
use Rattle.term_pool.specs.declared.node.Node.{Node}
use Rattle.term_pool.specs.declared.pooled.PooledAtom.{PooledAtom}
use Rattle.term_pool.specs.declared.pooled.PooledAtom.TheVariants.{SameName, SameStore, SameValue, AtMost, Ends, Holds}
use Rattle.term_pool.specs.declared.pooled.PooledLiteral.{PooledLiteral}
use Rattle.term_pool.specs.declared.pooled.PooledConjunct.{PooledConjunct}
use Rattle.term_pool.specs.declared.pooled.PooledObligation.{PooledObligation}
use Rattle.term_pool.specs.Numbered.{Term, store_numbered, value_numbered, has_store, has_value, terms_of_nodes}
use Rattle.term_pool.specs.Kept.{nodes_there, depth_there}
use Rattle.term_pool.specs.Pooled.{atom_in, atom_numbered, literal_in, literal_numbered, gives_in, gives_numbered, conjunct_in, conjunct_numbered, obligation_in, obligation_numbered}
use Rattle.term_pool.proofs.Places.{both}
use Rattle.term_pool.proofs.Grown.{store_found, value_found}
use Rattle.pool_universe.specs.declared.part.PooledPart.{PooledPart}
use Rattle.pool_universe.specs.Roots.{atom_roots, literals_roots, gives_roots, conjunct_roots, conjuncts_roots, obligation_roots}
use Rattle.pool_universe.specs.RootSizes.{root_nodes, roots_nodes, root_depth, roots_depth, given_literals, conjunct_literals, conjuncts_literals, obligation_literals}

module _ (ts : List Term) where
  nodes_append : (rs qs : List PooledPart) → roots_nodes ts (rs ++ qs) ≡ roots_nodes ts rs + roots_nodes ts qs
  nodes_append [] qs = omega arith
  nodes_append (r ∷ rs) qs = let e = nodes_append rs qs in omega (arith, e)

  depth_append : (rs qs : List PooledPart) → roots_depth ts (rs ++ qs) ≡ max (roots_depth ts rs) (roots_depth ts qs)
  depth_append [] qs = omega arith
  depth_append (r ∷ rs) qs = let e = depth_append rs qs in omega (arith, e)

  store_nodes_are : (n : ℕ) → has_store ts n ≡ true → nodes_there (slice_get ts n) ≡ store_nodes (store_numbered ts n)
  store_nodes_are n h = ap nodes_there (store_found ts n h)

  value_nodes_are : (n : ℕ) → has_value ts n ≡ true → nodes_there (slice_get ts n) ≡ value_nodes (value_numbered ts n)
  value_nodes_are n h = ap nodes_there (value_found ts n h)

  store_depth_is : (n : ℕ) → has_store ts n ≡ true → depth_there (slice_get ts n) ≡ store_depth (store_numbered ts n)
  store_depth_is n h = ap depth_there (store_found ts n h)

  value_depth_is : (n : ℕ) → has_value ts n ≡ true → depth_there (slice_get ts n) ≡ value_depth (value_numbered ts n)
  value_depth_is n h = ap depth_there (value_found ts n h)

  atom_sized : (x : PooledAtom) → atom_in ts x ≡ true → (roots_nodes ts (atom_roots x) ≡ atom_nodes (atom_numbered ts x)) × (roots_depth ts (atom_roots x) ≡ atom_depth (atom_numbered ts x))
  unfolding atom_in atom_numbered atom_roots atom_nodes
  atom_sized (SameName x y) h = (refl, refl)
  atom_sized (SameStore a b) h = let c = both (has_store ts a) (has_store ts b) h in
      (omega (arith, store_nodes_are a c.0, store_nodes_are b c.1), omega (arith, store_depth_is a c.0, store_depth_is b c.1))
  atom_sized (SameValue a b) h = let c = both (has_value ts a) (has_value ts b) h in
      (omega (arith, value_nodes_are a c.0, value_nodes_are b c.1), omega (arith, value_depth_is a c.0, value_depth_is b c.1))
  atom_sized (AtMost a b z) h = let c = both (has_value ts a) (has_value ts b) h in
      (omega (arith, value_nodes_are a c.0, value_nodes_are b c.1), omega (arith, value_depth_is a c.0, value_depth_is b c.1))
  atom_sized (Ends s) h = (omega (arith, store_nodes_are s h), omega (arith, store_depth_is s h))
  atom_sized (Holds k s) h = (omega (arith, store_nodes_are s h), omega (arith, store_depth_is s h))

  literals_sized : (xs : List PooledLiteral) → list_all (literal_in ts) xs ≡ true
      → (roots_nodes ts (literals_roots xs) + length xs ≡ literals_nodes (map (literal_numbered ts) xs)) × (roots_depth ts (literals_roots xs) ≡ literals_depth (map (literal_numbered ts) xs))
  literals_sized [] h = (refl, refl)
  literals_sized (x ∷ xs) h =
      let b = both (literal_in ts x) (list_all (literal_in ts) xs) h in
      let one = atom_sized x.atom b.0 in
      let rest = literals_sized xs b.1 in
      (omega (arith, nodes_append (atom_roots x.atom) (literals_roots xs), one.0, rest.0), omega (arith, depth_append (atom_roots x.atom) (literals_roots xs), one.1, rest.1))

  gives_sized : (x : Option PooledLiteral) → gives_in ts x ≡ true
      → (roots_nodes ts (gives_roots x) + given_literals x ≡ gives_nodes (gives_numbered ts x)) × (roots_depth ts (gives_roots x) ≡ gives_depth (gives_numbered ts x))
  gives_sized None h = (refl, refl)
  gives_sized (Some x) h = let one = atom_sized x.atom h in (omega (arith, one.0), one.1)

  conjunct_sized : (c : PooledConjunct) → conjunct_in ts c ≡ true
      → (roots_nodes ts (conjunct_roots c) + conjunct_literals c ≡ conjunct_nodes (conjunct_numbered ts c)) × (roots_depth ts (conjunct_roots c) ≡ conjunct_depth (conjunct_numbered ts c))
  conjunct_sized c h =
      let b = both (list_all (literal_in ts) c.when) (gives_in ts c.gives) h in
      let w = literals_sized c.when b.0 in
      let g = gives_sized c.gives b.1 in
      (omega (arith, nodes_append (literals_roots c.when) (gives_roots c.gives), w.0, g.0), omega (arith, depth_append (literals_roots c.when) (gives_roots c.gives), w.1, g.1))

  conjuncts_sized : (cs : List PooledConjunct) → list_all (conjunct_in ts) cs ≡ true
      → (roots_nodes ts (conjuncts_roots cs) + conjuncts_literals cs ≡ conjuncts_nodes (map (conjunct_numbered ts) cs)) × (roots_depth ts (conjuncts_roots cs) ≡ conjuncts_depth (map (conjunct_numbered ts) cs))
  conjuncts_sized [] h = (refl, refl)
  conjuncts_sized (c ∷ cs) h =
      let b = both (conjunct_in ts c) (list_all (conjunct_in ts) cs) h in
      let one = conjunct_sized c b.0 in
      let rest = conjuncts_sized cs b.1 in
      (omega (arith, nodes_append (conjunct_roots c) (conjuncts_roots cs), one.0, rest.0), omega (arith, depth_append (conjunct_roots c) (conjuncts_roots cs), one.1, rest.1))

pub obligation_sized : (ns : List Node) (ob : PooledObligation) → obligation_in ns ob ≡ true
    → (roots_nodes (terms_of_nodes ns) (obligation_roots ob) + obligation_literals ob ≡ obligation_nodes (obligation_numbered ns ob))
    × (roots_depth (terms_of_nodes ns) (obligation_roots ob) ≡ obligation_depth (obligation_numbered ns ob))
unfolding obligation_roots
obligation_sized ns ob h =
    let ts = terms_of_nodes ns in
    let a = both (list_all (conjunct_in ts) ob.known) (list_all (literal_in ts) ob.path && conjunct_in ts ob.goal) h in
    let b = both (list_all (literal_in ts) ob.path) (conjunct_in ts ob.goal) a.1 in
    let known = conjuncts_sized ts ob.known a.0 in
    let path = literals_sized ts ob.path b.0 in
    let goal = conjunct_sized ts ob.goal b.1 in
    let outer = nodes_append ts (conjuncts_roots ob.known) (literals_roots ob.path ++ conjunct_roots ob.goal) in
    let inner = nodes_append ts (literals_roots ob.path) (conjunct_roots ob.goal) in
    let deep = depth_append ts (conjuncts_roots ob.known) (literals_roots ob.path ++ conjunct_roots ob.goal) in
    let deeper = depth_append ts (literals_roots ob.path) (conjunct_roots ob.goal) in
    (omega (arith, outer, inner, known.0, path.0, goal.0), omega (arith, deep, deeper, known.1, path.1, goal.1))
