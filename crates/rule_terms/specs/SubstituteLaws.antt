-- The laws of stores in place of L and R: what they do to nodes, depth and subterms, and that L and R themselves change nothing.
use Rattle.std.specs.Prelude.{◌≡◌, ℕ, ◌+◌, ◌≤◌, suc, max, Contains}
use Rattle.std.proofs.Common.{◌⊎◌}
use Rattle.rule_terms.specs.Term.{StoreTerm, left_store, right_store, put, run, ValueTerm, num, get, ev, add, sub, mul, ValueTerms, no_terms, term, store_depth, value_depth}
use Rattle.rule_terms.specs.Parts.{Part, a_store, a_value, a_place, an_expr, a_test, store_parts, value_parts}
use Rattle.rule_terms.specs.Counts.{store_nodes, value_nodes}
use Rattle.rule_terms.specs.Substitute.{store_at, value_term_at, terms_at}

-- nodes where L counts a and R counts b
unfoldable mutual
  pub store_weight : ℕ → ℕ → StoreTerm → ℕ
  store_weight a b left_store = a
  store_weight a b right_store = b
  store_weight a b (put s x is v) = suc (store_weight a b s + (terms_weight a b is + value_weight a b v))
  store_weight a b (run k s) = suc (store_weight a b s)

  pub value_weight : ℕ → ℕ → ValueTerm → ℕ
  value_weight a b (num z) = 1
  value_weight a b (get x is s) = suc (terms_weight a b is + store_weight a b s)
  value_weight a b (ev k s) = suc (store_weight a b s)
  value_weight a b (add v w) = suc (value_weight a b v + value_weight a b w)
  value_weight a b (sub v w) = suc (value_weight a b v + value_weight a b w)
  value_weight a b (mul v w) = suc (value_weight a b v + value_weight a b w)

  pub terms_weight : ℕ → ℕ → ValueTerms → ℕ
  terms_weight a b no_terms = 0
  terms_weight a b (term v vs) = value_weight a b v + terms_weight a b vs

abbrev pub NodesReplaced : Type 0
NodesReplaced = ((l r s : StoreTerm) → store_nodes (store_at l r s) ≡ store_weight (store_nodes l) (store_nodes r) s)
    × ((l r : StoreTerm) (v : ValueTerm) → value_nodes (value_term_at l r v) ≡ value_weight (store_nodes l) (store_nodes r) v)

-- the depth grows by at most the greater depth of the two stores, less one for the L or R that it replaces
abbrev pub DepthReplaced : Type 0
DepthReplaced = ((l r s : StoreTerm) → suc (store_depth (store_at l r s)) ≤ store_depth s + max (store_depth l) (store_depth r))
    × ((l r : StoreTerm) (v : ValueTerm) → suc (value_depth (value_term_at l r v)) ≤ value_depth v + max (store_depth l) (store_depth r))

abbrev pub SidesStay : Type 0
SidesStay = ((s : StoreTerm) → store_at left_store right_store s ≡ s)
    × ((v : ValueTerm) → value_term_at left_store right_store v ≡ v)

-- one replacement after another is one replacement
abbrev pub ReplacedTwice : Type 0
ReplacedTwice = ((l r a b s : StoreTerm) → store_at l r (store_at a b s) ≡ store_at (store_at l r a) (store_at l r b) s)
    × ((l r a b : StoreTerm) (v : ValueTerm) → value_term_at l r (value_term_at a b v) ≡ value_term_at (store_at l r a) (store_at l r b) v)

abbrev pub part_at : StoreTerm → StoreTerm → Part → Part
part_at l r (a_store s) = a_store (store_at l r s)
part_at l r (a_value v) = a_value (value_term_at l r v)
part_at l r (a_place p) = a_place (record { name = p.name; indices = terms_at l r p.indices })
part_at l r (an_expr k) = an_expr k
part_at l r (a_test k) = a_test k

-- what occurs in a term occurs, replaced, in the replaced term
abbrev pub PartsReplaced : Type 0
PartsReplaced = ((l r s : StoreTerm) (p : Part) → Contains (store_parts s) p → Contains (store_parts (store_at l r s)) (part_at l r p))
    × ((l r : StoreTerm) (v : ValueTerm) (p : Part) → Contains (value_parts v) p → Contains (value_parts (value_term_at l r v)) (part_at l r p))

-- and nothing else occurs there but what occurs in the two stores
abbrev pub NothingElse : Type 0
NothingElse = ((l r s : StoreTerm) (q : Part) → Contains (store_parts (store_at l r s)) q →
    ((p : Part) × Contains (store_parts s) p × (q ≡ part_at l r p)) ⊎ (Contains (store_parts l) q ⊎ Contains (store_parts r) q))
    × ((l r : StoreTerm) (v : ValueTerm) (q : Part) → Contains (value_parts (value_term_at l r v)) q →
    ((p : Part) × Contains (value_parts v) p × (q ≡ part_at l r p)) ⊎ (Contains (store_parts l) q ⊎ Contains (store_parts r) q))
