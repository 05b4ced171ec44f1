-- The term of a number from the terms of its node's parts, which have smaller numbers.
use Rattle.std.specs.Prelude.{◌≡◌, ℕ, zero, suc, ◌+◌, ◌<◌, ◌≤◌, true, ◌&&◌, pos, List, [], ◌∷◌, ◌++◌, length, take, Option, Some, None, slice_get, refl}
use Rattle.std.proofs.Common.{sym, ◌∙◌, ap, arith, get_or}
use Rattle.std.proofs.lemmas.List.{take_more}
use Rattle.std.proofs.lemmas.Option.{none-some, slice_get_within}
use Rattle.rule_terms.specs.Term.{left_store, put, run, ValueTerm, num, get, ev, add, sub, mul}
use Rattle.rule_terms.specs.TermView.{terms_of}
use Rattle.term_pool.specs.declared.node.Node.{Node}
use Rattle.term_pool.specs.declared.node.Node.TheVariants.{Put, Run, Get, Ev, Add, Sub, Mul}
use Rattle.term_pool.specs.declared.node.PooledPlace.{PooledPlace}
use Rattle.term_pool.specs.Numbered.{Term, a_store, a_value, as_store, as_value, store_numbered, value_numbered, values_numbered, built, terms_of_nodes, has_store, has_value, has_values, names_earlier, Stands}
use Rattle.term_pool.specs.Rebuilding.{above}
use Rattle.term_pool.proofs.Places.{both}
use Rattle.term_pool.proofs.Grown.{store_found, value_found, stands_built}
use Rattle.term_pool.proofs.Different.{number_has_node}
use Rattle.term_pool.proofs.PutTerms.{pushed, values_pushed, terms_pushed}

store_below : (ts : List Term) (n : ℕ) → has_store ts n ≡ true → n < length ts
store_below ts n h = slice_get_within ts n (a_store (store_numbered ts n)) (store_found ts n h)

value_below : (ts : List Term) (n : ℕ) → has_value ts n ≡ true → n < length ts
value_below ts n h = slice_get_within ts n (a_value (value_numbered ts n)) (value_found ts n h)

values_below : (ts : List Term) (ns : List ℕ) → has_values ts ns ≡ true → above ns ≤ length ts
unfolding has_values
values_below ts [] h = omega arith
values_below ts (n ∷ ns) h =
    let b = both (has_value ts n) (has_values ts ns) h in
    omega (arith, value_below ts n b.0, values_below ts ns b.1)

pub number_item : (ns : List ℕ) (k d : ℕ) → k < length ns → get_or ns k d < above ns
number_item [] k d h = absurd (omega arith)
number_item (n ∷ ns) zero d h = omega arith
number_item (n ∷ ns) (suc k) d h = let below : get_or ns k d < above ns = number_item ns k d (omega arith) in omega arith

two_below : (at a b : ℕ) (before : List Term) → length before ≡ at → (has_value before a && has_value before b) ≡ true → (a < at) × (b < at)
two_below at a b before short h =
    let c = both (has_value before a) (has_value before b) h in
    (omega (arith, short, value_below before a c.0), omega (arith, short, value_below before b c.1))

module _ {ts : List Term} {at : ℕ} where
  pub put_below : (s v : ℕ) (p : PooledPlace) → Stands ts at (Put s p v) → (s < at) × (above p.indices ≤ at) × (v < at)
  unfolding names_earlier
  put_below s v p h =
      let b = both (has_store h.before s) (has_values h.before p.indices && has_value h.before v) h.names in
      let c = both (has_values h.before p.indices) (has_value h.before v) b.1 in
      (omega (arith, h.short, store_below h.before s b.0), omega (arith, h.short, values_below h.before p.indices c.0), omega (arith, h.short, value_below h.before v c.1))

  pub run_below : (k s : ℕ) → Stands ts at (Run k s) → s < at
  unfolding names_earlier
  run_below k s h = omega (arith, h.short, store_below h.before s h.names)

  pub get_below : (p : PooledPlace) (s : ℕ) → Stands ts at (Get p s) → (above p.indices ≤ at) × (s < at)
  unfolding names_earlier
  get_below p s h =
      let b = both (has_values h.before p.indices) (has_store h.before s) h.names in
      (omega (arith, h.short, values_below h.before p.indices b.0), omega (arith, h.short, store_below h.before s b.1))

  pub ev_below : (k s : ℕ) → Stands ts at (Ev k s) → s < at
  unfolding names_earlier
  ev_below k s h = omega (arith, h.short, store_below h.before s h.names)

  pub add_below : (a b : ℕ) → Stands ts at (Add a b) → (a < at) × (b < at)
  unfolding names_earlier
  add_below a b h = two_below at a b h.before h.short h.names

  pub sub_below : (a b : ℕ) → Stands ts at (Sub a b) → (a < at) × (b < at)
  unfolding names_earlier
  sub_below a b h = two_below at a b h.before h.short h.names

  pub mul_below : (a b : ℕ) → Stands ts at (Mul a b) → (a < at) × (b < at)
  unfolding names_earlier
  mul_below a b h = two_below at a b h.before h.short h.names

  pub put_is : (s v : ℕ) (p : PooledPlace) → Stands ts at (Put s p v) → put (store_numbered ts s) p.name (values_numbered ts p.indices) (value_numbered ts v) ≡ store_numbered ts at
  unfolding built
  put_is s v p h = sym (ap as_store (stands_built h))

  pub run_is : (k s : ℕ) → Stands ts at (Run k s) → run k (store_numbered ts s) ≡ store_numbered ts at
  unfolding built
  run_is k s h = sym (ap as_store (stands_built h))

  pub get_is : (p : PooledPlace) (s : ℕ) → Stands ts at (Get p s) → get p.name (values_numbered ts p.indices) (store_numbered ts s) ≡ value_numbered ts at
  unfolding built
  get_is p s h = sym (ap as_value (stands_built h))

  pub ev_is : (k s : ℕ) → Stands ts at (Ev k s) → ev k (store_numbered ts s) ≡ value_numbered ts at
  unfolding built
  ev_is k s h = sym (ap as_value (stands_built h))

  pub add_is : (a b : ℕ) → Stands ts at (Add a b) → add (value_numbered ts a) (value_numbered ts b) ≡ value_numbered ts at
  unfolding built
  add_is a b h = sym (ap as_value (stands_built h))

  pub sub_is : (a b : ℕ) → Stands ts at (Sub a b) → sub (value_numbered ts a) (value_numbered ts b) ≡ value_numbered ts at
  unfolding built
  sub_is a b h = sym (ap as_value (stands_built h))

  pub mul_is : (a b : ℕ) → Stands ts at (Mul a b) → mul (value_numbered ts a) (value_numbered ts b) ≡ value_numbered ts at
  unfolding built
  mul_is a b h = sym (ap as_value (stands_built h))

-- indices, one after another
pub next_index : (ts : List Term) (ns : List ℕ) (i d : ℕ) (vs : List ValueTerm) (v : ValueTerm) → terms_of vs ≡ values_numbered ts (take i ns) → v ≡ value_numbered ts (get_or ns i d)
    → i < length ns → terms_of (vs ++ v ∷ []) ≡ values_numbered ts (take (i + 1) ns)
next_index ts ns i d vs v h e l =
    terms_pushed vs v ∙ (λ j. pushed (h j) (e j)) ∙ sym (values_pushed ts (take i ns) (get_or ns i d))
    ∙ ap (values_numbered ts) (sym (take_more ns i d l))

pub no_index : (ts : List Term) → terms_of [] ≡ values_numbered ts []
unfolding values_numbered
no_index ts = refl

-- a number of no node
past : (ns : List Node) (i : ℕ) → None ≡ slice_get ns i → slice_get (terms_of_nodes ns) i ≡ None
past ns i h = by (slice_get (terms_of_nodes ns) i) refl
  where
    by : (o : Option Term) → slice_get (terms_of_nodes ns) i ≡ o → o ≡ None
    by None e = refl
    by (Some t) e = let n = number_has_node ns i t e in absurd (none-some n.0 (h ∙ n.1))

pub store_past : (ns : List Node) (i : ℕ) → None ≡ slice_get ns i → left_store ≡ store_numbered (terms_of_nodes ns) i
store_past ns i h = sym (ap as_store (past ns i h))

pub value_past : (ns : List Node) (i : ℕ) → None ≡ slice_get ns i → num (pos 0) ≡ value_numbered (terms_of_nodes ns) i
value_past ns i h = sym (ap as_value (past ns i h))
