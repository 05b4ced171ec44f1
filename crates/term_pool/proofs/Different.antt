-- Different nodes of a pool have different terms: a node can be read back from its term.
-- So no term gets a second number where a node that was missing is put at the end.
use Rattle.std.specs.Prelude.{◌≡◌, ℕ, true, ◌&&◌, List, [], ◌∷◌, ◌++◌, take, Some, slice_get, refl}
use Rattle.std.proofs.Common.{sym, ◌∙◌, ap, subst, arith, inl, inr}
use Rattle.std.proofs.lemmas.Option.{same_Some, slice_get_within}
use Rattle.rule_terms.specs.Term.{left_store, right_store, put, run, num, get, ev, add, sub, mul, ValueTerms, no_terms, term}
use Rattle.term_pool.specs.declared.node.Node.{Node}
use Rattle.term_pool.specs.declared.node.Node.TheVariants.{L, R, Put, Run, Num, Get, Ev, Add, Sub, Mul}
use Rattle.term_pool.specs.Numbered.{Term, a_store, a_value, store_numbered, value_numbered, values_numbered, built, terms_of_nodes, has_store, has_value, has_values, names_earlier, Once, IsPool, Stands}
use Rattle.term_pool.specs.Kept.{IsMissing}
use Rattle.term_pool.proofs.Places.{before_or_last, there, both, of_taken}
use Rattle.term_pool.proofs.SameTerms.{find, found}
use Rattle.term_pool.proofs.Grown.{grown_append, grown_one, each_append, each_one, each_taken, length_grown, grown_taken, store_found, value_found, stands, stands_built, stands_names}

-- the numbers of indices
finds : List Term → ValueTerms → List ℕ
finds ts no_terms = []
finds ts (term v vs) = find ts (a_value v) ∷ finds ts vs

-- the node of a term, from the first numbers of its parts
node_of : List Term → Term → Node
node_of ts (a_store left_store) = L
node_of ts (a_store right_store) = R
node_of ts (a_store (put s x is v)) = Put (find ts (a_store s)) (record { name = x; indices = finds ts is }) (find ts (a_value v))
node_of ts (a_store (run k s)) = Run k (find ts (a_store s))
node_of ts (a_value (num z)) = Num z
node_of ts (a_value (get x is s)) = Get (record { name = x; indices = finds ts is }) (find ts (a_store s))
node_of ts (a_value (ev k s)) = Ev k (find ts (a_store s))
node_of ts (a_value (add a b)) = Add (find ts (a_value a)) (find ts (a_value b))
node_of ts (a_value (sub a b)) = Sub (find ts (a_value a)) (find ts (a_value b))
node_of ts (a_value (mul a b)) = Mul (find ts (a_value a)) (find ts (a_value b))

module _ (ts : List Term) (once : Once ts) where
  store_back : (n : ℕ) → has_store ts n ≡ true → find ts (a_store (store_numbered ts n)) ≡ n
  store_back n h = found ts once n (a_store (store_numbered ts n)) (store_found ts n h)

  value_back : (n : ℕ) → has_value ts n ≡ true → find ts (a_value (value_numbered ts n)) ≡ n
  value_back n h = found ts once n (a_value (value_numbered ts n)) (value_found ts n h)

  values_back : (ns : List ℕ) → has_values ts ns ≡ true → finds ts (values_numbered ts ns) ≡ ns
  unfolding has_values values_numbered finds
  values_back [] h = refl
  values_back (n ∷ ns) h =
      let b = both (has_value ts n) (has_values ts ns) h in
      λ j. value_back n b.0 j ∷ values_back ns b.1 j

  node_back : (n : Node) → names_earlier ts n ≡ true → node_of ts (built ts n) ≡ n
  unfolding built names_earlier node_of
  node_back L h = refl
  node_back R h = refl
  node_back (Put s p v) h =
      let b = both (has_store ts s) (has_values ts p.indices && has_value ts v) h in
      let c = both (has_values ts p.indices) (has_value ts v) b.1 in
      λ j. Put (store_back s b.0 j) (record { name = p.name; indices = values_back p.indices c.0 j }) (value_back v c.1 j)
  node_back (Run k s) h = λ j. Run k (store_back s h j)
  node_back (Num z) h = refl
  node_back (Get p s) h =
      let b = both (has_values ts p.indices) (has_store ts s) h in
      λ j. Get (record { name = p.name; indices = values_back p.indices b.0 j }) (store_back s b.1 j)
  node_back (Ev k s) h = λ j. Ev k (store_back s h j)
  node_back (Add a c) h = let b = both (has_value ts a) (has_value ts c) h in λ j. Add (value_back a b.0 j) (value_back c b.1 j)
  node_back (Sub a c) h = let b = both (has_value ts a) (has_value ts c) h in λ j. Sub (value_back a b.0 j) (value_back c b.1 j)
  node_back (Mul a c) h = let b = both (has_value ts a) (has_value ts c) h in λ j. Mul (value_back a b.0 j) (value_back c b.1 j)

  pub same_nodes : (m n : Node) → names_earlier ts m ≡ true → names_earlier ts n ≡ true → built ts m ≡ built ts n → m ≡ n
  same_nodes m n h k e = sym (node_back m h) ∙ ap (node_of ts) e ∙ node_back n k

pub push_once : (ts : List Term) (t : Term) → Once ts → ((i : ℕ) → slice_get ts i ≡ Some t → ⊥) → Once (ts ++ t ∷ [])
push_once ts t once new i j u h k = elim (before_or_last ts t i u h) [
  | inl a ↦ elim (before_or_last ts t j u k) [
    | inl b ↦ once i j u a b
    | inr b ↦ absurd (new i (a ∙ ap Some b.1))
  ]
  | inr a ↦ elim (before_or_last ts t j u k) [
    | inl b ↦ absurd (new j (b ∙ ap Some a.1))
    | inr b ↦ a.0 ∙ sym b.0
  ]
]

-- a node at its number in a pool
pub node_stands : (ns : List Node) (i : ℕ) (n : Node) → IsPool ns → slice_get ns i ≡ Some n → Stands (terms_of_nodes ns) i n
node_stands ns i n p h = stands [] ns i i n p.earlier h (omega arith)

pub number_has_node : (ns : List Node) (i : ℕ) (t : Term) → slice_get (terms_of_nodes ns) i ≡ Some t → (n : Node) × (slice_get ns i ≡ Some n)
number_has_node ns i t h = there ns i (omega (arith, slice_get_within (terms_of_nodes ns) i t h, length_grown [] ns))

-- the term of a missing node is missing
pub term_missing : (ns : List Node) (m : Node) → IsPool ns → names_earlier (terms_of_nodes ns) m ≡ true → IsMissing ns m → (i : ℕ) → slice_get (terms_of_nodes ns) i ≡ Some (built (terms_of_nodes ns) m) → ⊥
term_missing ns m p h missing i e =
    let ts = terms_of_nodes ns in
    let k = number_has_node ns i (built ts m) e in
    let s = node_stands ns i k.0 p k.1 in
    let same : built ts k.0 ≡ built ts m = same_Some (built ts k.0) (built ts m) (sym (stands_built s) ∙ e) in
    missing i (k.1 ∙ ap Some (same_nodes ts p.once k.0 m (stands_names s) h same))

pub terms_push : (ns : List Node) (m : Node) → terms_of_nodes (ns ++ m ∷ []) ≡ terms_of_nodes ns ++ built (terms_of_nodes ns) m ∷ []
terms_push ns m = grown_append [] ns (m ∷ []) ∙ grown_one (terms_of_nodes ns) m

pub pool_push : (ns : List Node) (m : Node) → IsPool ns → names_earlier (terms_of_nodes ns) m ≡ true → IsMissing ns m → IsPool (ns ++ m ∷ [])
pool_push ns m p h missing = record {
  earlier = each_append [] ns (m ∷ []) p.earlier (each_one (terms_of_nodes ns) m h);
  once = subst Once (sym (terms_push ns m)) (push_once (terms_of_nodes ns) (built (terms_of_nodes ns) m) p.once (term_missing ns m p h missing));
}

pub terms_taken : (ns : List Node) (k : ℕ) → terms_of_nodes (take k ns) ≡ take k (terms_of_nodes ns)
terms_taken ns k = grown_taken [] k k ns (omega arith)

pub pool_taken : (ns : List Node) (k : ℕ) → IsPool ns → IsPool (take k ns)
pool_taken ns k p = record {
  earlier = each_taken [] k ns p.earlier;
  once = subst Once (sym (terms_taken ns k)) (λ i j t h l. p.once i j t (of_taken k (terms_of_nodes ns) i t h) (of_taken k (terms_of_nodes ns) j t l));
}

-- no node stands at two numbers
pub nodes_once : (ns : List Node) → IsPool ns → (i j : ℕ) (n : Node) → slice_get ns i ≡ Some n → slice_get ns j ≡ Some n → i ≡ j
nodes_once ns p i j n h k = p.once i j (built (terms_of_nodes ns) n) (stands_built (node_stands ns i n p h)) (stands_built (node_stands ns j n p k))
