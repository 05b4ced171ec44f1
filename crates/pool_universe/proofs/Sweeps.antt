-- A sweep over marks from the last number down: what occurs is found already, or occurs in a marked number still ahead.
use Rattle.std.specs.Prelude.{◌≡◌, ℕ, zero, suc, ◌+◌, ◌-◌, ◌<◌, Bool, true, false, ◌&&◌, List, [], ◌∷◌, ◌++◌, length, map, replicate, Option, Some, None, slice_get, refl}
use Rattle.std.specs.List.{list_all, flat_map}
use Rattle.std.proofs.Common.{sym, ◌∙◌, ap, subst, arith, ◌⊎◌, inl, inr, true≢false}
use Rattle.std.proofs.lemmas.List.{append-nil, append_assoc, map-append, length-replicate}
use Rattle.std.proofs.lemmas.Option.{none-some, same_Some, slice_get_within}
use Rattle.rule_terms.specs.Term.{put, run, num, get, ev, add, sub, mul}
use Rattle.rule_terms.specs.Parts.{Part, a_store, a_value, a_place, an_expr, a_test, store_parts, value_parts, terms_parts}
use Rattle.rule_terms.specs.Added.{added_all}
use Rattle.rule_terms.proofs.Members.{In, in_left, in_right, in_either, in_from, from_in}
use Rattle.term_universe.specs.Universe.{ListsOnce}
use Rattle.term_universe.proofs.Apart.{Apart, apart_from}
use Rattle.term_universe.proofs.Listings.{Within, within_itself, Source, source, in_flat, Holds, holds_all, added_append}
use Rattle.term_pool.specs.declared.node.Node.{Node}
use Rattle.term_pool.specs.declared.node.Node.TheVariants.{L, R, Put, Run, Num, Get, Ev, Add, Sub, Mul}
use Rattle.term_pool.specs.Numbered.{Term, as_store, as_value, is_store_there, is_value_there, built, terms_of_nodes, store_numbered, value_numbered, values_numbered, has_store, has_value, has_values, names_earlier, Once, IsPool, Stands}
use Rattle.term_pool.specs.Numbered as numbered
use Rattle.term_pool.proofs.Places.{both, and_true, there}
use Rattle.term_pool.proofs.Grown.{store_found, value_found, stands_built, stands_names, length_grown}
use Rattle.term_pool.proofs.Different.{node_stands, number_has_node}
use Rattle.pool_universe.specs.declared.part.PooledPart.{PooledPart}
use Rattle.pool_universe.specs.declared.part.PooledPart.TheVariants.{Store, Value, Place, Expr, Test}
use Rattle.pool_universe.specs.PooledParts.{place_numbered, part_numbered, part_in, parts_there, top_parts, part_numbers, top_there, numbers_there, marked_all, is_set}
use Rattle.pool_universe.specs.Roots.{root_numbers, root_tests}
use Rattle.pool_universe.proofs.Found.{same, part_is, part_self, apart_numbered, From, from_map, to_map, apart_map, pairs_apart, all_inside, each_inside}
use Rattle.pool_universe.proofs.Marks.{IsMarked, marked_length, marked_keeps, marked_here, marked_either, marked_append, none_marked}

last_or_below : (n k : ℕ) → k < suc n → (k ≡ n) ⊎ (k < n)
last_or_below zero zero h = inl refl
last_or_below zero (suc k) h = absurd (omega (arith, h))
last_or_below (suc n) zero h = inr (omega arith)
last_or_below (suc n) (suc k) h = elim (last_or_below n k (omega (arith, h))) [ inl e ↦ inl (ap suc e) | inr l ↦ inr (omega (arith, l)) ]

-- ---- the numbers of a node's parts are before it
module _ (ts : List Term) where
  store_short : (n : ℕ) → has_store ts n ≡ true → n < length ts
  store_short n h = slice_get_within ts n (numbered.a_store (store_numbered ts n)) (store_found ts n h)

  value_short : (n : ℕ) → has_value ts n ≡ true → n < length ts
  value_short n h = slice_get_within ts n (numbered.a_value (value_numbered ts n)) (value_found ts n h)

  values_short : (ns : List ℕ) → has_values ts ns ≡ true → (k : ℕ) → In k ns → k < length ts
  unfolding has_values
  values_short [] h k i = elim i [ ]
  values_short (n ∷ ns) h k (inl e) = subst (λ x. x < length ts) e (value_short n (both (has_value ts n) (has_values ts ns) h).0)
  values_short (n ∷ ns) h k (inr i) = values_short ns (both (has_value ts n) (has_values ts ns) h).1 k i

  only : (n k : ℕ) → n < length ts → In k (n ∷ []) → k < length ts
  only n k h (inl e) = subst (λ x. x < length ts) e h
  only n k h (inr i) = elim i [ ]

  two : (a c k : ℕ) → has_value ts a ≡ true → has_value ts c ≡ true → In k (a ∷ c ∷ []) → k < length ts
  two a c k h l (inl e) = subst (λ x. x < length ts) e (value_short a h)
  two a c k h l (inr i) = only c k (value_short c l) i

  -- the numbers of its parts are before the end
  pub numbers_short : (n : Node) → names_earlier ts n ≡ true → (k : ℕ) → In k (part_numbers n) → k < length ts
  unfolding names_earlier part_numbers
  numbers_short L h k i = elim i [ ]
  numbers_short R h k i = elim i [ ]
  numbers_short (Put s p v) h k i =
      let b = both (has_store ts s) (has_values ts p.indices && has_value ts v) h in
      let c = both (has_values ts p.indices) (has_value ts v) b.1 in
      elim i [
        | inl e ↦ subst (λ x. x < length ts) e (store_short s b.0)
        | inr r ↦ elim (in_either p.indices (v ∷ []) k r) [ inl x ↦ values_short p.indices c.0 k x | inr y ↦ only v k (value_short v c.1) y ]
      ]
  numbers_short (Run j s) h k i = only s k (store_short s h) i
  numbers_short (Num z) h k i = elim i [ ]
  numbers_short (Get p s) h k i =
      let b = both (has_values ts p.indices) (has_store ts s) h in
      elim (in_either p.indices (s ∷ []) k i) [ inl x ↦ values_short p.indices b.0 k x | inr y ↦ only s k (store_short s b.1) y ]
  numbers_short (Ev j s) h k i = only s k (store_short s h) i
  numbers_short (Add a c) h k i = let b = both (has_value ts a) (has_value ts c) h in two a c k b.0 b.1 i
  numbers_short (Sub a c) h k i = let b = both (has_value ts a) (has_value ts c) h in two a c k b.0 b.1 i
  numbers_short (Mul a c) h k i = let b = both (has_value ts a) (has_value ts c) h in two a c k b.0 b.1 i

numbers_below : (ts : List Term) (at : ℕ) (n : Node) → Stands ts at n → (k : ℕ) → In k (part_numbers n) → k < at
numbers_below ts at n st k h = subst (λ l. k < l) st.short (numbers_short st.before n st.names k h)

-- ---- a node and what occurs in its term
module _ (ts : List Term) where
  abbrev pub at_number : ℕ → List Part
  at_number n = parts_there (slice_get ts n)

  pub store_there : (n : ℕ) → has_store ts n ≡ true → at_number n ≡ store_parts (store_numbered ts n)
  store_there n h = ap parts_there (store_found ts n h)

  pub value_there : (n : ℕ) → has_value ts n ≡ true → at_number n ≡ value_parts (value_numbered ts n)
  value_there n h = ap parts_there (value_found ts n h)

  pub values_there : (ns : List ℕ) → has_values ts ns ≡ true → flat_map at_number ns ≡ terms_parts (values_numbered ts ns)
  unfolding has_values values_numbered store_parts
  values_there [] h = refl
  values_there (n ∷ ns) h =
      let b = both (has_value ts n) (has_values ts ns) h in
      λ j. value_there n b.0 j ++ values_there ns b.1 j

  flat_append : (ns ks : List ℕ) → flat_map at_number (ns ++ ks) ≡ flat_map at_number ns ++ flat_map at_number ks
  flat_append [] ks = refl
  flat_append (n ∷ ns) ks = ap (λ ps. at_number n ++ ps) (flat_append ns ks) ∙ sym (append_assoc (at_number n) (flat_map at_number ns) (flat_map at_number ks))

  one : (n : ℕ) → flat_map at_number (n ∷ []) ≡ at_number n
  one n = append-nil (at_number n)

  -- the parts of a node, from the numbers of its parts
  pub below_top : (n : Node) → names_earlier ts n ≡ true → (at : ℕ) → slice_get ts at ≡ Some (built ts n)
      → at_number at ≡ map (part_numbered ts) (top_parts at n) ++ flat_map at_number (part_numbers n)
  unfolding built names_earlier top_parts part_numbers store_parts
  below_top L h at e = ap parts_there e ∙ (λ j. a_store (as_store (sym e j)) ∷ [])
  below_top R h at e = ap parts_there e ∙ (λ j. a_store (as_store (sym e j)) ∷ [])
  below_top (Put s p v) h at e =
      let b = both (has_store ts s) (has_values ts p.indices && has_value ts v) h in
      let c = both (has_values ts p.indices) (has_value ts v) b.1 in
      let more : flat_map at_number (s ∷ (p.indices ++ v ∷ [])) ≡ store_parts (store_numbered ts s) ++ (terms_parts (values_numbered ts p.indices) ++ value_parts (value_numbered ts v)) =
      (λ j. store_there s b.0 j ++ (flat_append p.indices (v ∷ []) ∙ (λ i. values_there p.indices c.0 i ++ (one v ∙ value_there v c.1) i)) j) in
      ap parts_there e ∙ (λ j. a_store (as_store (sym e j)) ∷ a_place (place_numbered ts p) ∷ sym more j)
  below_top (Run k s) h at e = ap parts_there e ∙ (λ j. a_store (as_store (sym e j)) ∷ sym (one s ∙ store_there s h) j)
  below_top (Num z) h at e = ap parts_there e ∙ (λ j. a_value (as_value (sym e j)) ∷ [])
  below_top (Get p s) h at e =
      let b = both (has_values ts p.indices) (has_store ts s) h in
      let more : flat_map at_number (p.indices ++ s ∷ []) ≡ terms_parts (values_numbered ts p.indices) ++ store_parts (store_numbered ts s) =
      flat_append p.indices (s ∷ []) ∙ (λ i. values_there p.indices b.0 i ++ (one s ∙ store_there s b.1) i) in
      ap parts_there e ∙ (λ j. a_value (as_value (sym e j)) ∷ a_place (place_numbered ts p) ∷ sym more j)
  below_top (Ev k s) h at e = ap parts_there e ∙ (λ j. a_value (as_value (sym e j)) ∷ an_expr k ∷ sym (one s ∙ store_there s h) j)
  below_top (Add a c) h at e = let b = both (has_value ts a) (has_value ts c) h in
      ap parts_there e ∙ (λ j. a_value (as_value (sym e j)) ∷ (sym (value_there a b.0) j ++ sym (one c ∙ value_there c b.1) j))
  below_top (Sub a c) h at e = let b = both (has_value ts a) (has_value ts c) h in
      ap parts_there e ∙ (λ j. a_value (as_value (sym e j)) ∷ (sym (value_there a b.0) j ++ sym (one c ∙ value_there c b.1) j))
  below_top (Mul a c) h at e = let b = both (has_value ts a) (has_value ts c) h in
      ap parts_there e ∙ (λ j. a_value (as_value (sym e j)) ∷ (sym (value_there a b.0) j ++ sym (one c ∙ value_there c b.1) j))

  -- its top is of the pool
  pub top_inside : (n : Node) → names_earlier ts n ≡ true → (at : ℕ) → slice_get ts at ≡ Some (built ts n) → list_all (part_in ts) (top_parts at n) ≡ true
  unfolding built names_earlier top_parts
  top_inside L h at e = and_true (ap is_store_there e) refl
  top_inside R h at e = and_true (ap is_store_there e) refl
  top_inside (Put s p v) h at e =
      let b = both (has_store ts s) (has_values ts p.indices && has_value ts v) h in
      and_true (ap is_store_there e) (and_true (both (has_values ts p.indices) (has_value ts v) b.1).0 refl)
  top_inside (Run k s) h at e = and_true (ap is_store_there e) refl
  top_inside (Num z) h at e = and_true (ap is_value_there e) refl
  top_inside (Get p s) h at e = and_true (ap is_value_there e) (and_true (both (has_values ts p.indices) (has_store ts s) h).0 refl)
  top_inside (Ev k s) h at e = and_true (ap is_value_there e) refl
  top_inside (Add a c) h at e = and_true (ap is_value_there e) refl
  top_inside (Sub a c) h at e = and_true (ap is_value_there e) refl
  top_inside (Mul a c) h at e = and_true (ap is_value_there e) refl

  -- ---- the sweep
  -- it occurs in the term of a marked number below n
  pub record Waits (marks : List Bool) (n : ℕ) (x : Part) : Type 0 where
    pub number : ℕ
    pub below : number < n
    pub marked : IsMarked marks number
    pub its : In x (at_number number)

  pub record Sweeps (whole : List Part) (parts : List PooledPart) (marks : List Bool) (n : ℕ) : Type 0 where
    pub long : length marks ≡ length ts
    pub inside : (p : PooledPart) → In p parts → part_in ts p ≡ true
    pub apart : Apart parts
    pub found : (p : PooledPart) → In p parts → In (part_numbered ts p) whole
    pub waits : (x : Part) → Waits marks n x → In x whole
    pub all : (x : Part) → In x whole → In x (map (part_numbered ts) parts) ⊎ Waits marks n x

  -- more parts found
  more_once : (parts more : List PooledPart) → Apart parts → Holds same part_is part_self (added_all same parts more) (parts ++ more)
  more_once parts more a = holds_all same part_is part_self parts parts more (record { to = within_itself parts; back = within_itself parts; once = pairs_apart parts a })

  pub more_apart : (parts more : List PooledPart) → Apart parts → Apart (added_all same parts more)
  more_apart parts more a = apart_from (added_all same parts more) (more_once parts more a).once

  pub more_either : (parts more : List PooledPart) → Apart parts → (p : PooledPart) → In p (added_all same parts more) → In p parts ⊎ In p more
  more_either parts more a p h = in_either parts more p ((more_once parts more a).to.each p h)

  pub more_old : (parts more : List PooledPart) → Apart parts → (p : PooledPart) → In p parts → In p (added_all same parts more)
  more_old parts more a p h = (more_once parts more a).back.each p (in_left parts more p h)

  pub more_new : (parts more : List PooledPart) → Apart parts → (p : PooledPart) → In p more → In p (added_all same parts more)
  more_new parts more a p h = (more_once parts more a).back.each p (in_right parts more p h)

  mapped : (xs ys : List PooledPart) → ((p : PooledPart) → In p xs → In p ys) → (x : Part) → In x (map (part_numbered ts) xs) → In x (map (part_numbered ts) ys)
  mapped xs ys g x h =
      let r : From (part_numbered ts) xs x = from_map (part_numbered ts) xs x h in
      subst (λ y. In y (map (part_numbered ts) ys)) r.is (to_map (part_numbered ts) ys r.item (g r.item r.there))

  -- what more parts stand for is found, where they are of the pool and stand for what the whole holds
  found_more : (whole : List Part) (parts more : List PooledPart) (marks marked : List Bool) (n k : ℕ) → Sweeps whole parts marks n → list_all (part_in ts) more ≡ true
      → ((p : PooledPart) → In p more → In (part_numbered ts p) whole) → length marked ≡ length ts → ((x : Part) → Waits marked k x → In x whole)
      → ((x : Part) → Waits marks n x → In x (map (part_numbered ts) more) ⊎ Waits marked k x)
      → Sweeps whole (added_all same parts more) marked k
  found_more whole parts more marks marked n k s inside found long waits ahead = record {
    long = long;
    inside = λ p h. elim (more_either parts more s.apart p h) [ inl a ↦ s.inside p a | inr b ↦ each_inside (part_in ts) more inside p b ];
    apart = more_apart parts more s.apart;
    found = λ p h. elim (more_either parts more s.apart p h) [ inl a ↦ s.found p a | inr b ↦ found p b ];
    waits = waits;
    all = λ x h. elim (s.all x h) [
      | inl a ↦ inl (mapped parts (added_all same parts more) (more_old parts more s.apart) x a)
      | inr w ↦ elim (ahead x w) [
        | inl b ↦ inl (mapped more (added_all same parts more) (more_new parts more s.apart) x b)
        | inr v ↦ inr v
      ]
    ];
  }

  -- a marked number: what occurs at its top is found, and the numbers of its parts are marked
  next_node : (whole : List Part) (parts : List PooledPart) (marks : List Bool) (at : ℕ) (n : Node) → Stands ts at n → IsMarked marks at → Sweeps whole parts marks (suc at)
      → Sweeps whole (added_all same parts (top_parts at n)) (marked_all marks (part_numbers n)) at
  next_node whole parts marks at n st m s =
      let is : slice_get ts at ≡ Some (built ts n) = stands_built st in
      let names : names_earlier ts n ≡ true = stands_names st in
      let splits : at_number at ≡ map (part_numbered ts) (top_parts at n) ++ flat_map at_number (part_numbers n) = below_top n names at is in
      let here : (x : Part) → In x (at_number at) → In x whole = λ x h. s.waits x (record { number = at; below = omega arith; marked = m; its = h }) in
      let after = marked_all marks (part_numbers n) in
      found_more whole parts (top_parts at n) marks after (suc at) at s (top_inside n names at is)
      (λ p h. here (part_numbered ts p) (subst (In (part_numbered ts p)) (sym splits) (in_left (map (part_numbered ts) (top_parts at n)) (flat_map at_number (part_numbers n)) (part_numbered ts p) (to_map (part_numbered ts) (top_parts at n) p h))))
      (marked_length marks (part_numbers n) ∙ s.long)
      (λ x w. elim (marked_either marks (part_numbers n) w.number w.marked) [
        | inl i ↦ here x (subst (In x) (sym splits) (in_right (map (part_numbered ts) (top_parts at n)) (flat_map at_number (part_numbers n)) x (in_flat at_number (part_numbers n) w.number x i w.its)))
        | inr k ↦ s.waits x (record { number = w.number; below = omega (arith, w.below); marked = k; its = w.its })
      ])
      (λ x w. elim (last_or_below at w.number w.below) [
        | inl e ↦ elim (in_either (map (part_numbered ts) (top_parts at n)) (flat_map at_number (part_numbers n)) x (subst (In x) splits (subst (λ k. In x (at_number k)) e w.its))) [
          | inl a ↦ inl a
          | inr b ↦ (let f : Source at_number (part_numbers n) x = source at_number (part_numbers n) x b in
              inr (record {
                number = f.item;
                below = numbers_below ts at n st f.item f.there;
                marked = marked_here marks (part_numbers n) f.item f.there (omega (arith, numbers_short ts n names f.item f.there, s.long));
                its = f.its;
              }))
        ]
        | inr l ↦ inr (record { number = w.number; below = l; marked = marked_keeps marks (part_numbers n) w.number w.marked; its = w.its })
      ])

  -- a number that is not marked
  pub next_free : (whole : List Part) (parts : List PooledPart) (marks : List Bool) (at : ℕ) → (IsMarked marks at → ⊥) → Sweeps whole parts marks (suc at) → Sweeps whole parts marks at
  next_free whole parts marks at free s = record {
    long = s.long;
    inside = s.inside;
    apart = s.apart;
    found = s.found;
    waits = λ x w. s.waits x (record { number = w.number; below = omega (arith, w.below); marked = w.marked; its = w.its });
    all = λ x h. elim (s.all x h) [
      | inl a ↦ inl a
      | inr w ↦ elim (last_or_below at w.number w.below) [
        | inl e ↦ absurd (free (subst (IsMarked marks) e w.marked))
        | inr l ↦ inr (record { number = w.number; below = l; marked = w.marked; its = w.its })
      ]
    ];
  }

  -- nothing is marked yet
  pub start : Sweeps [] [] (replicate (length ts) false) (length ts)
  start = record {
    long = length-replicate (length ts) false;
    inside = λ p h. elim h [ ];
    apart = tt;
    found = λ p h. elim h [ ];
    waits = λ x w. absurd (none_marked (length ts) w.number w.marked);
    all = λ x h. elim h [ ];
  }

  -- what occurs in a root
  abbrev pub root_parts : PooledPart → List Part
  root_parts (Store n) = at_number n
  root_parts (Value n) = at_number n
  root_parts (Place p) = []
  root_parts (Expr k) = []
  root_parts (Test k) = a_test k ∷ []

  root_there : (r : PooledPart) (k : ℕ) → In k (root_numbers r) → at_number k ≡ root_parts r
  root_there (Store n) k (inl e) = ap at_number (sym e)
  root_there (Value n) k (inl e) = ap at_number (sym e)
  root_there (Store n) k (inr h) = elim h [ ]
  root_there (Value n) k (inr h) = elim h [ ]
  root_there (Place p) k h = elim h [ ]
  root_there (Expr j) k h = elim h [ ]
  root_there (Test j) k h = elim h [ ]

  root_short : (r : PooledPart) → part_in ts r ≡ true → (k : ℕ) → In k (root_numbers r) → k < length ts
  root_short (Store n) h k i = only ts n k (store_short ts n h) i
  root_short (Value n) h k i = only ts n k (value_short ts n h) i
  root_short (Place p) h k i = elim i [ ]
  root_short (Expr j) h k i = elim i [ ]
  root_short (Test j) h k i = elim i [ ]

  -- what occurs in a root is found, or in the term of its number
  root_either : (r : PooledPart) (x : Part) → In x (root_parts r) → In x (map (part_numbered ts) (root_tests r)) ⊎ ((k : ℕ) × In k (root_numbers r))
  root_either (Store n) x h = inr (n, inl refl)
  root_either (Value n) x h = inr (n, inl refl)
  root_either (Place p) x h = elim h [ ]
  root_either (Expr j) x h = elim h [ ]
  root_either (Test j) x h = inl h

  tests_found : (r p : PooledPart) → In p (root_tests r) → In (part_numbered ts p) (root_parts r)
  tests_found (Test k) p (inl e) = inl (ap (part_numbered ts) e)
  tests_found (Test k) p (inr h) = elim h [ ]
  tests_found (Store n) p h = elim h [ ]
  tests_found (Value n) p h = elim h [ ]
  tests_found (Place q) p h = elim h [ ]
  tests_found (Expr k) p h = elim h [ ]

  tests_inside : (r : PooledPart) → list_all (part_in ts) (root_tests r) ≡ true
  tests_inside (Store n) = refl
  tests_inside (Value n) = refl
  tests_inside (Place p) = refl
  tests_inside (Expr k) = refl
  tests_inside (Test k) = refl

  next_root : (whole : List Part) (parts : List PooledPart) (marks : List Bool) (r : PooledPart) → part_in ts r ≡ true → Sweeps whole parts marks (length ts)
      → Sweeps (whole ++ root_parts r) (added_all same parts (root_tests r)) (marked_all marks (root_numbers r)) (length ts)
  next_root whole parts marks r h s = record {
    long = marked_length marks (root_numbers r) ∙ s.long;
    inside = λ p i. elim (more_either parts (root_tests r) s.apart p i) [ inl a ↦ s.inside p a | inr b ↦ each_inside (part_in ts) (root_tests r) (tests_inside r) p b ];
    apart = more_apart parts (root_tests r) s.apart;
    found = λ p i. elim (more_either parts (root_tests r) s.apart p i) [
      | inl a ↦ in_left whole (root_parts r) (part_numbered ts p) (s.found p a)
      | inr b ↦ in_right whole (root_parts r) (part_numbered ts p) (tests_found r p b)
    ];
    waits = λ x w. elim (marked_either marks (root_numbers r) w.number w.marked) [
      | inl i ↦ in_right whole (root_parts r) x (subst (In x) (root_there r w.number i) w.its)
      | inr k ↦ in_left whole (root_parts r) x (s.waits x (record { number = w.number; below = w.below; marked = k; its = w.its }))
    ];
    all = λ x i. elim (in_either whole (root_parts r) x i) [
      | inl a ↦ elim (s.all x a) [
        | inl b ↦ inl (mapped parts (added_all same parts (root_tests r)) (more_old parts (root_tests r) s.apart) x b)
        | inr w ↦ inr (record { number = w.number; below = w.below; marked = marked_keeps marks (root_numbers r) w.number w.marked; its = w.its })
      ]
      | inr c ↦ elim (root_either r x c) [
        | inl b ↦ inl (mapped (root_tests r) (added_all same parts (root_tests r)) (more_new parts (root_tests r) s.apart) x b)
        | inr k ↦ inr (record {
          number = k.0;
          below = root_short r h k.0 k.1;
          marked = marked_here marks (root_numbers r) k.0 k.1 (omega (arith, root_short r h k.0 k.1, s.long));
          its = subst (In x) (sym (root_there r k.0 k.1)) c;
        })
      ]
    ];
  }

  pub next_roots : (whole : List Part) (parts : List PooledPart) (marks : List Bool) (rs : List PooledPart) → list_all (part_in ts) rs ≡ true → Sweeps whole parts marks (length ts)
      → Sweeps (whole ++ flat_map root_parts rs) (added_all same parts (flat_map root_tests rs)) (marked_all marks (flat_map root_numbers rs)) (length ts)
  unfolding added_all marked_all
  next_roots whole parts marks [] h s = subst (λ w. Sweeps w parts marks (length ts)) (sym (append-nil whole)) s
  next_roots whole parts marks (r ∷ rs) h s =
      let b = both (part_in ts r) (list_all (part_in ts) rs) h in
      let first = next_root whole parts marks r b.0 s in
      let rest = next_roots (whole ++ root_parts r) (added_all same parts (root_tests r)) (marked_all marks (root_numbers r)) rs b.1 first in
      subst (λ w. Sweeps w (added_all same parts (flat_map root_tests (r ∷ rs))) (marked_all marks (flat_map root_numbers (r ∷ rs))) (length ts)) (append_assoc whole (root_parts r) (flat_map root_parts rs))
      (subst (λ ps. Sweeps ((whole ++ root_parts r) ++ flat_map root_parts rs) ps (marked_all marks (flat_map root_numbers (r ∷ rs))) (length ts)) (sym (added_append same parts (root_tests r) (flat_map root_tests rs)))
      (subst (λ ms. Sweeps ((whole ++ root_parts r) ++ flat_map root_parts rs) (added_all same (added_all same parts (root_tests r)) (flat_map root_tests rs)) ms (length ts)) (sym (marked_append marks (root_numbers r) (flat_map root_numbers rs))) rest))

  -- the end of the sweep
  pub swept : Once ts → (whole : List Part) (parts : List PooledPart) (marks : List Bool) → Sweeps whole parts marks 0
      → (list_all (part_in ts) parts ≡ true) × ListsOnce (map (part_numbered ts) parts) whole
  swept once whole parts marks s = (
    all_inside (part_in ts) parts s.inside,
    record {
      exact = λ x. (
        (λ c. from_in whole x (listed x (from_map (part_numbered ts) parts x (in_from (map (part_numbered ts) parts) x c)))),
        (λ c. from_in (map (part_numbered ts) parts) x (elim (s.all x (in_from whole x c)) [ inl a ↦ a | inr w ↦ absurd (omega (arith, w.below)) ])),
      );
      once = pairs_apart (map (part_numbered ts) parts) (apart_map (part_numbered ts) parts (λ p q h k e. apart_numbered ts once p q (s.inside p h) (s.inside q k) e) s.apart);
    },
  )
    where
      listed : (x : Part) → From (part_numbered ts) parts x → In x whole
      listed x r = subst (λ y. In y whole) r.is (s.found r.item r.there)

-- one number of the sweep over a pool
pub next_number : (ns : List Node) (whole : List Part) (parts : List PooledPart) (marks : List Bool) (at : ℕ) → IsPool ns → IsMarked marks at → Sweeps (terms_of_nodes ns) whole parts marks (suc at)
    → Sweeps (terms_of_nodes ns) whole (added_all same parts (top_there at (slice_get ns at))) (marked_all marks (numbers_there (slice_get ns at))) at
next_number ns whole parts marks at pool m s =
    let h : at < length ns = omega (arith, slice_get_within marks at true m, s.long, length_grown [] ns) in
    let n = there ns at h in
    subst (λ o. Sweeps (terms_of_nodes ns) whole (added_all same parts (top_there at o)) (marked_all marks (numbers_there o)) at) (sym n.1)
    (next_node (terms_of_nodes ns) whole parts marks at n.0 (node_stands ns at n.0 pool n.1) m s)
