-- What occurs in an obligation by numbers is what occurs in its roots.
use Rattle.std.specs.Prelude.{◌≡◌, ℕ, Bool, true, ◌&&◌, List, [], ◌∷◌, ◌++◌, map, Option, Some, None, refl}
use Rattle.std.specs.List.{list_all, flat_map}
use Rattle.std.proofs.Common.{sym, ◌∙◌, ap}
use Rattle.std.proofs.lemmas.List.{append-nil}
use Rattle.std.proofs.lemmas.Grind.{flat_map-append}
use Rattle.rule_terms.specs.Parts.{Part, a_test, store_parts, value_parts, atom_parts, literal_parts, literals_parts, gives_parts, conjunct_parts, conjuncts_parts, obligation_parts}
use Rattle.term_pool.specs.declared.node.Node.{Node}
use Rattle.term_pool.specs.declared.pooled.PooledAtom.{PooledAtom}
use Rattle.term_pool.specs.declared.pooled.PooledAtom.TheVariants.{SameName, SameStore, SameValue, AtMost, Ends, Holds}
use Rattle.term_pool.specs.declared.pooled.PooledLiteral.{PooledLiteral}
use Rattle.term_pool.specs.declared.pooled.PooledConjunct.{PooledConjunct}
use Rattle.term_pool.specs.declared.pooled.PooledObligation.{PooledObligation}
use Rattle.term_pool.specs.Numbered.{Term, store_numbered, value_numbered, has_store, has_value, terms_of_nodes}
use Rattle.term_pool.specs.Pooled.{atom_in, atom_numbered, literal_in, literal_numbered, gives_in, gives_numbered, conjunct_in, conjunct_numbered, obligation_in, obligation_numbered}
use Rattle.term_pool.proofs.Places.{both, and_true}
use Rattle.pool_universe.specs.declared.part.PooledPart.{PooledPart}
use Rattle.pool_universe.specs.declared.part.PooledPart.TheVariants.{Store, Value, Place, Expr, Test}
use Rattle.pool_universe.specs.PooledParts.{part_in}
use Rattle.pool_universe.specs.Roots.{atom_roots, literal_roots, literals_roots, gives_roots, conjunct_roots, conjuncts_roots, obligation_roots}
use Rattle.pool_universe.proofs.Sweeps.{root_parts, store_there, value_there}

all_beside : {X : Type 0} (test : X → Bool) (xs ys : List X) → list_all test xs ≡ true → list_all test ys ≡ true → list_all test (xs ++ ys) ≡ true
all_beside test [] ys h k = k
all_beside test (x ∷ xs) ys h k = let b = both (test x) (list_all test xs) h in and_true b.0 (all_beside test xs ys b.1 k)

-- the roots are of the pool, and what occurs in them is what occurs in the item
module _ (ts : List Term) where
  abbrev Alike : List PooledPart → List Part → Type 0
  Alike rs ps = (list_all (part_in ts) rs ≡ true) × (flat_map (root_parts ts) rs ≡ ps)

  beside : (qs rs : List PooledPart) (ps us : List Part) → Alike qs ps → Alike rs us → Alike (qs ++ rs) (ps ++ us)
  beside qs rs ps us a b = (
    all_beside (part_in ts) qs rs a.0 b.0,
    flat_map-append (root_parts ts) qs rs ∙ (λ j. a.1 j ++ b.1 j),
  )

  store_alike : (n : ℕ) → has_store ts n ≡ true → Alike (Store n ∷ []) (store_parts (store_numbered ts n))
  store_alike n h = (and_true h refl, append-nil _ ∙ store_there ts n h)

  value_alike : (n : ℕ) → has_value ts n ≡ true → Alike (Value n ∷ []) (value_parts (value_numbered ts n))
  value_alike n h = (and_true h refl, append-nil _ ∙ value_there ts n h)

  atom_alike : (x : PooledAtom) → atom_in ts x ≡ true → Alike (atom_roots x) (atom_parts (atom_numbered ts x))
  unfolding atom_in atom_numbered atom_roots atom_parts
  atom_alike (SameName x y) h = (refl, refl)
  atom_alike (SameStore a b) h = let c = both (has_store ts a) (has_store ts b) h in beside (Store a ∷ []) (Store b ∷ []) _ _ (store_alike a c.0) (store_alike b c.1)
  atom_alike (SameValue a b) h = let c = both (has_value ts a) (has_value ts b) h in beside (Value a ∷ []) (Value b ∷ []) _ _ (value_alike a c.0) (value_alike b c.1)
  atom_alike (AtMost a b z) h = let c = both (has_value ts a) (has_value ts b) h in beside (Value a ∷ []) (Value b ∷ []) _ _ (value_alike a c.0) (value_alike b c.1)
  atom_alike (Ends s) h = store_alike s h
  atom_alike (Holds k s) h = beside (Test k ∷ []) (Store s ∷ []) (a_test k ∷ []) _ (refl, refl) (store_alike s h)

  module _ {X Y : Type 0} (inside : X → Bool) (roots : X → List PooledPart) (of : X → Y) (parts : Y → List Part)
      (each : (x : X) → inside x ≡ true → Alike (roots x) (parts (of x))) where
    items_alike : (xs : List X) → list_all inside xs ≡ true → Alike (flat_map roots xs) (flat_map parts (map of xs))
    items_alike [] h = (refl, refl)
    items_alike (x ∷ xs) h = let b = both (inside x) (list_all inside xs) h in beside (roots x) (flat_map roots xs) _ _ (each x b.0) (items_alike xs b.1)

  literals_alike : (xs : List PooledLiteral) → list_all (literal_in ts) xs ≡ true → Alike (literals_roots xs) (literals_parts (map (literal_numbered ts) xs))
  literals_alike xs h = items_alike (literal_in ts) literal_roots (literal_numbered ts) literal_parts (λ x k. atom_alike x.atom k) xs h

  gives_alike : (x : Option PooledLiteral) → gives_in ts x ≡ true → Alike (gives_roots x) (gives_parts (gives_numbered ts x))
  gives_alike None h = (refl, refl)
  gives_alike (Some x) h = atom_alike x.atom h

  conjunct_alike : (c : PooledConjunct) → conjunct_in ts c ≡ true → Alike (conjunct_roots c) (conjunct_parts (conjunct_numbered ts c))
  conjunct_alike c h =
      let b = both (list_all (literal_in ts) c.when) (gives_in ts c.gives) h in
      beside (literals_roots c.when) (gives_roots c.gives) _ _ (literals_alike c.when b.0) (gives_alike c.gives b.1)

  conjuncts_alike : (cs : List PooledConjunct) → list_all (conjunct_in ts) cs ≡ true → Alike (conjuncts_roots cs) (conjuncts_parts (map (conjunct_numbered ts) cs))
  conjuncts_alike cs h = items_alike (conjunct_in ts) conjunct_roots (conjunct_numbered ts) conjunct_parts conjunct_alike cs h

pub obligation_alike : (ns : List Node) (ob : PooledObligation) → obligation_in ns ob ≡ true
    → (list_all (part_in (terms_of_nodes ns)) (obligation_roots ob) ≡ true) × (flat_map (root_parts (terms_of_nodes ns)) (obligation_roots ob) ≡ obligation_parts (obligation_numbered ns ob))
unfolding obligation_roots obligation_parts
obligation_alike ns ob h =
    let ts = terms_of_nodes ns in
    let a = both (list_all (conjunct_in ts) ob.known) (list_all (literal_in ts) ob.path && conjunct_in ts ob.goal) h in
    let b = both (list_all (literal_in ts) ob.path) (conjunct_in ts ob.goal) a.1 in
    beside ts (conjuncts_roots ob.known) (literals_roots ob.path ++ conjunct_roots ob.goal) _ _ (conjuncts_alike ts ob.known a.0)
    (beside ts (literals_roots ob.path) (conjunct_roots ob.goal) _ _ (literals_alike ts ob.path b.0) (conjunct_alike ts ob.goal b.1))
