-- The nodes and the depth of a node's term, from those of the numbers that it names.
use Rattle.std.specs.Prelude.{◌≡◌, ℕ, suc, max, ◌+◌, ◌^◌, ◌<◌, ◌≤◌, length, true, ◌&&◌, List, [], ◌∷◌, slice_get, refl}
use Rattle.std.proofs.Common.{sym, ◌∙◌, ap, drop, get_or, arith}
use Rattle.std.proofs.lemmas.List.{drop_more, drop_all}
use Rattle.rule_terms.specs.Term.{store_depth, value_depth, terms_depth}
use Rattle.rule_terms.specs.Counts.{store_nodes, value_nodes, terms_nodes, saturated}
use Rattle.term_pool.specs.declared.node.Node.{Node}
use Rattle.term_pool.specs.declared.node.Node.TheVariants.{L, R, Put, Run, Num, Get, Ev, Add, Sub, Mul}
use Rattle.term_pool.specs.Numbered.{Term, store_numbered, value_numbered, values_numbered, built, has_store, has_value, has_values, names_earlier}
use Rattle.term_pool.specs.Kept.{term_nodes, nodes_there, numbers_nodes, parts_nodes, term_depth, depth_there, numbers_depth, parts_depth}
use Rattle.term_pool.proofs.Places.{both}
use Rattle.term_pool.proofs.Grown.{store_found, value_found}

module _ (ts : List Term) where
  store_counted : (n : ℕ) → has_store ts n ≡ true → nodes_there (slice_get ts n) ≡ store_nodes (store_numbered ts n)
  store_counted n h = ap nodes_there (store_found ts n h)

  value_counted : (n : ℕ) → has_value ts n ≡ true → nodes_there (slice_get ts n) ≡ value_nodes (value_numbered ts n)
  value_counted n h = ap nodes_there (value_found ts n h)

  values_counted : (ns : List ℕ) → has_values ts ns ≡ true → numbers_nodes ts ns ≡ terms_nodes (values_numbered ts ns)
  unfolding values_numbered has_values store_nodes
  values_counted [] h = refl
  values_counted (n ∷ ns) h =
      let b = both (has_value ts n) (has_values ts ns) h in
      λ j. value_counted n b.0 j + values_counted ns b.1 j

  pub parts_counted : (n : Node) → names_earlier ts n ≡ true → parts_nodes ts n ≡ term_nodes (built ts n)
  unfolding parts_nodes built names_earlier store_nodes
  parts_counted L h = refl
  parts_counted R h = refl
  parts_counted (Put s p v) h =
      let b = both (has_store ts s) (has_values ts p.indices && has_value ts v) h in
      let c = both (has_values ts p.indices) (has_value ts v) b.1 in
      λ j. suc (store_counted s b.0 j + (values_counted p.indices c.0 j + value_counted v c.1 j))
  parts_counted (Run k s) h = λ j. suc (store_counted s h j)
  parts_counted (Num z) h = refl
  parts_counted (Get p s) h =
      let b = both (has_values ts p.indices) (has_store ts s) h in
      λ j. suc (values_counted p.indices b.0 j + store_counted s b.1 j)
  parts_counted (Ev k s) h = λ j. suc (store_counted s h j)
  parts_counted (Add a c) h = let b = both (has_value ts a) (has_value ts c) h in λ j. suc (value_counted a b.0 j + value_counted c b.1 j)
  parts_counted (Sub a c) h = let b = both (has_value ts a) (has_value ts c) h in λ j. suc (value_counted a b.0 j + value_counted c b.1 j)
  parts_counted (Mul a c) h = let b = both (has_value ts a) (has_value ts c) h in λ j. suc (value_counted a b.0 j + value_counted c b.1 j)

  store_deep : (n : ℕ) → has_store ts n ≡ true → depth_there (slice_get ts n) ≡ store_depth (store_numbered ts n)
  store_deep n h = ap depth_there (store_found ts n h)

  value_deep : (n : ℕ) → has_value ts n ≡ true → depth_there (slice_get ts n) ≡ value_depth (value_numbered ts n)
  value_deep n h = ap depth_there (value_found ts n h)

  values_deep : (ns : List ℕ) → has_values ts ns ≡ true → numbers_depth ts ns ≡ terms_depth (values_numbered ts ns)
  unfolding values_numbered has_values
  values_deep [] h = refl
  values_deep (n ∷ ns) h =
      let b = both (has_value ts n) (has_values ts ns) h in
      λ j. max (value_deep n b.0 j) (values_deep ns b.1 j)

  pub parts_deep : (n : Node) → names_earlier ts n ≡ true → parts_depth ts n ≡ term_depth (built ts n)
  unfolding parts_depth built names_earlier
  parts_deep L h = refl
  parts_deep R h = refl
  parts_deep (Put s p v) h =
      let b = both (has_store ts s) (has_values ts p.indices && has_value ts v) h in
      let c = both (has_values ts p.indices) (has_value ts v) b.1 in
      λ j. suc (max (store_deep s b.0 j) (max (values_deep p.indices c.0 j) (value_deep v c.1 j)))
  parts_deep (Run k s) h = λ j. suc (store_deep s h j)
  parts_deep (Num z) h = refl
  parts_deep (Get p s) h =
      let b = both (has_values ts p.indices) (has_store ts s) h in
      λ j. suc (max (values_deep p.indices b.0 j) (store_deep s b.1 j))
  parts_deep (Ev k s) h = λ j. suc (store_deep s h j)
  parts_deep (Add a c) h = let b = both (has_value ts a) (has_value ts c) h in λ j. suc (max (value_deep a b.0 j) (value_deep c b.1 j))
  parts_deep (Sub a c) h = let b = both (has_value ts a) (has_value ts c) h in λ j. suc (max (value_deep a b.0 j) (value_deep c b.1 j))
  parts_deep (Mul a c) h = let b = both (has_value ts a) (has_value ts c) h in λ j. suc (max (value_deep a b.0 j) (value_deep c b.1 j))

-- one more number of a list
pub next_nodes : (ts : List Term) (ns : List ℕ) (i n all next : ℕ) → i < length ns → n ≡ get_or ns i n → next ≡ saturated (all + saturated (nodes_there (slice_get ts n)))
    → saturated (next + numbers_nodes ts (drop (i + 1) ns)) ≡ saturated (all + numbers_nodes ts (drop i ns))
next_nodes ts ns i n all next h is e =
    let more : numbers_nodes ts (drop i ns) ≡ nodes_there (slice_get ts n) + numbers_nodes ts (drop (i + 1) ns) =
    ap (numbers_nodes ts) (drop_more ns i n h) ∙ ap (λ m. nodes_there (slice_get ts m) + numbers_nodes ts (drop (i + 1) ns)) (sym is) in
    omega (arith, e, more)

pub all_nodes : (ts : List Term) (ns : List ℕ) (i all total : ℕ) → length ns ≤ i → all < 2 ^ 64 → saturated (all + numbers_nodes ts (drop i ns)) ≡ total → all ≡ total
all_nodes ts ns i all total h small e =
    let none : numbers_nodes ts (drop i ns) ≡ 0 = ap (numbers_nodes ts) (drop_all i ns h) in
    omega (arith, small, none, e)

pub next_depth : (ts : List Term) (ns : List ℕ) (i n all next : ℕ) → i < length ns → n ≡ get_or ns i n → next ≡ max all (saturated (depth_there (slice_get ts n)))
    → saturated (max next (numbers_depth ts (drop (i + 1) ns))) ≡ saturated (max all (numbers_depth ts (drop i ns)))
next_depth ts ns i n all next h is e =
    let more : numbers_depth ts (drop i ns) ≡ max (depth_there (slice_get ts n)) (numbers_depth ts (drop (i + 1) ns)) =
    ap (numbers_depth ts) (drop_more ns i n h) ∙ ap (λ m. max (depth_there (slice_get ts m)) (numbers_depth ts (drop (i + 1) ns))) (sym is) in
    omega (arith, e, more)

pub all_depth : (ts : List Term) (ns : List ℕ) (i all total : ℕ) → length ns ≤ i → all < 2 ^ 64 → saturated (max all (numbers_depth ts (drop i ns))) ≡ total → all ≡ total
all_depth ts ns i all total h small e =
    let none : numbers_depth ts (drop i ns) ≡ 0 = ap (numbers_depth ts) (drop_all i ns h) in
    omega (arith, small, none, e)
