-- Terms of a list of nodes, as the list grows and is cut: each number keeps its term.
use Rattle.std.specs.Prelude.{◌≡◌, ℕ, zero, suc, ◌+◌, true, ◌&&◌, List, [], ◌∷◌, ◌++◌, length, take, Option, Some, None, slice_get, refl}
use Rattle.std.proofs.Common.{sym, ◌∙◌, ap, subst, arith, true≢false}
use Rattle.std.proofs.lemmas.Option.{none-some, same_Some}
use Rattle.std.proofs.lemmas.List.{length-append, append_assoc, append-nil, take_all, take-append-le}
use Rattle.rule_terms.specs.Term.{put, run, get, ev, add, sub, mul, term}
use Rattle.term_pool.specs.declared.node.Node.{Node}
use Rattle.term_pool.specs.declared.node.Node.TheVariants.{L, R, Put, Run, Num, Get, Ev, Add, Sub, Mul}
use Rattle.term_pool.specs.Numbered.{Term, a_store, a_value, as_store, as_value, store_numbered, value_numbered, values_numbered, built, grown, is_store_there, is_value_there, has_store, has_value, has_values, names_earlier, each_names_earlier, Within, Stands}
use Rattle.term_pool.proofs.Places.{front, last_place, both, and_true}

pub grown_append : (ts : List Term) (ms ns : List Node) → grown ts (ms ++ ns) ≡ grown (grown ts ms) ns
unfolding grown
grown_append ts [] ns = refl
grown_append ts (m ∷ ms) ns = grown_append (ts ++ built ts m ∷ []) ms ns

pub grown_one : (ts : List Term) (n : Node) → grown ts (n ∷ []) ≡ ts ++ built ts n ∷ []
unfolding grown
grown_one ts n = refl

pub each_append : (ts : List Term) (ms ns : List Node) → each_names_earlier ts ms ≡ true → each_names_earlier (grown ts ms) ns ≡ true → each_names_earlier ts (ms ++ ns) ≡ true
unfolding grown each_names_earlier
each_append ts [] ns h k = k
each_append ts (m ∷ ms) ns h k =
    let b = both (names_earlier ts m) (each_names_earlier (ts ++ built ts m ∷ []) ms) h in
    and_true b.0 (each_append (ts ++ built ts m ∷ []) ms ns b.1 k)

pub each_one : (ts : List Term) (n : Node) → names_earlier ts n ≡ true → each_names_earlier ts (n ∷ []) ≡ true
unfolding each_names_earlier
each_one ts n h = and_true h refl

pub each_taken : (ts : List Term) (k : ℕ) (ns : List Node) → each_names_earlier ts ns ≡ true → each_names_earlier ts (take k ns) ≡ true
unfolding each_names_earlier
each_taken ts zero ns h = refl
each_taken ts (suc k) [] h = refl
each_taken ts (suc k) (n ∷ ns) h =
    let b = both (names_earlier ts n) (each_names_earlier (ts ++ built ts n ∷ []) ns) h in
    and_true b.0 (each_taken (ts ++ built ts n ∷ []) k ns b.1)

-- the terms of which a list grows stay in front
pub begins : (ts : List Term) (ns : List Node) → (more : List Term) × (grown ts ns ≡ ts ++ more)
unfolding grown
begins ts [] = ([], sym (append-nil ts))
begins ts (n ∷ ns) =
    let b = begins (ts ++ built ts n ∷ []) ns in
    (built ts n ∷ b.0, b.1 ∙ append_assoc ts (built ts n ∷ []) b.0)

pub length_grown : (ts : List Term) (ns : List Node) → length (grown ts ns) ≡ length ts + length ns
unfolding grown
length_grown ts [] = omega arith
length_grown ts (n ∷ ns) = omega (arith, length_grown (ts ++ built ts n ∷ []) ns, length-append ts (built ts n ∷ []))

pub within_grown : (ts : List Term) (ns : List Node) → Within ts (grown ts ns)
within_grown ts ns i t h = let b = begins ts ns in ap (λ us. slice_get us i) b.1 ∙ front ts b.0 i t h

pub grown_taken : (ts : List Term) (k n : ℕ) (ns : List Node) → n ≡ length ts + k → grown ts (take k ns) ≡ take n (grown ts ns)
unfolding grown
grown_taken ts zero n ns e =
    let b = begins ts ns in
    let same : n ≡ length ts = omega arith in
    sym (ap (λ m. take m (grown ts ns)) same ∙ ap (take (length ts)) b.1 ∙ (take-append-le (length ts) ts b.0 (omega arith) ∙ take_all (length ts) ts (omega arith)))
grown_taken ts (suc k) n [] e = sym (take_all n ts (omega arith))
grown_taken ts (suc k) n (m ∷ ns) e = grown_taken (ts ++ built ts m ∷ []) k n ns (omega (arith, length-append ts (built ts m ∷ [])))

-- a number that is of a store, or of a value
in_store : (o : Option Term) → is_store_there o ≡ true → o ≡ Some (a_store (as_store o))
in_store None h = absurd (true≢false (sym h))
in_store (Some (a_store s)) h = refl
in_store (Some (a_value v)) h = absurd (true≢false (sym h))

in_value : (o : Option Term) → is_value_there o ≡ true → o ≡ Some (a_value (as_value o))
in_value None h = absurd (true≢false (sym h))
in_value (Some (a_store s)) h = absurd (true≢false (sym h))
in_value (Some (a_value v)) h = refl

pub store_found : (ts : List Term) (n : ℕ) → has_store ts n ≡ true → slice_get ts n ≡ Some (a_store (store_numbered ts n))
store_found ts n h = in_store (slice_get ts n) h

pub value_found : (ts : List Term) (n : ℕ) → has_value ts n ≡ true → slice_get ts n ≡ Some (a_value (value_numbered ts n))
value_found ts n h = in_value (slice_get ts n) h

module _ (ts us : List Term) (within : Within ts us) where
  pub store_stays : (n : ℕ) → has_store ts n ≡ true → store_numbered us n ≡ store_numbered ts n
  store_stays n h = ap as_store (within n (a_store (store_numbered ts n)) (store_found ts n h))

  pub has_store_stays : (n : ℕ) → has_store ts n ≡ true → has_store us n ≡ true
  has_store_stays n h = ap is_store_there (within n (a_store (store_numbered ts n)) (store_found ts n h))

  pub value_stays : (n : ℕ) → has_value ts n ≡ true → value_numbered us n ≡ value_numbered ts n
  value_stays n h = ap as_value (within n (a_value (value_numbered ts n)) (value_found ts n h))

  pub has_value_stays : (n : ℕ) → has_value ts n ≡ true → has_value us n ≡ true
  has_value_stays n h = ap is_value_there (within n (a_value (value_numbered ts n)) (value_found ts n h))

  pub values_stay : (ns : List ℕ) → has_values ts ns ≡ true → values_numbered us ns ≡ values_numbered ts ns
  unfolding has_values values_numbered
  values_stay [] h = refl
  values_stay (n ∷ ns) h =
      let b = both (has_value ts n) (has_values ts ns) h in
      λ j. term (value_stays n b.0 j) (values_stay ns b.1 j)

  pub has_values_stay : (ns : List ℕ) → has_values ts ns ≡ true → has_values us ns ≡ true
  unfolding has_values
  has_values_stay [] h = refl
  has_values_stay (n ∷ ns) h =
      let b = both (has_value ts n) (has_values ts ns) h in
      and_true (has_value_stays n b.0) (has_values_stay ns b.1)

  pub built_stays : (n : Node) → names_earlier ts n ≡ true → built us n ≡ built ts n
  unfolding built names_earlier
  built_stays L h = refl
  built_stays R h = refl
  built_stays (Put s p v) h =
      let b = both (has_store ts s) (has_values ts p.indices && has_value ts v) h in
      let c = both (has_values ts p.indices) (has_value ts v) b.1 in
      λ j. a_store (put (store_stays s b.0 j) p.name (values_stay p.indices c.0 j) (value_stays v c.1 j))
  built_stays (Run k s) h = λ j. a_store (run k (store_stays s h j))
  built_stays (Num z) h = refl
  built_stays (Get p s) h =
      let b = both (has_values ts p.indices) (has_store ts s) h in
      λ j. a_value (get p.name (values_stay p.indices b.0 j) (store_stays s b.1 j))
  built_stays (Ev k s) h = λ j. a_value (ev k (store_stays s h j))
  built_stays (Add a c) h = let b = both (has_value ts a) (has_value ts c) h in λ j. a_value (add (value_stays a b.0 j) (value_stays c b.1 j))
  built_stays (Sub a c) h = let b = both (has_value ts a) (has_value ts c) h in λ j. a_value (sub (value_stays a b.0 j) (value_stays c b.1 j))
  built_stays (Mul a c) h = let b = both (has_value ts a) (has_value ts c) h in λ j. a_value (mul (value_stays a b.0 j) (value_stays c b.1 j))

  pub names_stay : (n : Node) → names_earlier ts n ≡ true → names_earlier us n ≡ true
  unfolding names_earlier
  names_stay L h = refl
  names_stay R h = refl
  names_stay (Put s p v) h =
      let b = both (has_store ts s) (has_values ts p.indices && has_value ts v) h in
      let c = both (has_values ts p.indices) (has_value ts v) b.1 in
      and_true (has_store_stays s b.0) (and_true (has_values_stay p.indices c.0) (has_value_stays v c.1))
  names_stay (Run k s) h = has_store_stays s h
  names_stay (Num z) h = refl
  names_stay (Get p s) h = let b = both (has_values ts p.indices) (has_store ts s) h in and_true (has_values_stay p.indices b.0) (has_store_stays s b.1)
  names_stay (Ev k s) h = has_store_stays s h
  names_stay (Add a c) h = let b = both (has_value ts a) (has_value ts c) h in and_true (has_value_stays a b.0) (has_value_stays c b.1)
  names_stay (Sub a c) h = let b = both (has_value ts a) (has_value ts c) h in and_true (has_value_stays a b.0) (has_value_stays c b.1)
  names_stay (Mul a c) h = let b = both (has_value ts a) (has_value ts c) h in and_true (has_value_stays a b.0) (has_value_stays c b.1)

pub stands : (ts : List Term) (ns : List Node) (i j : ℕ) (n : Node) → each_names_earlier ts ns ≡ true → slice_get ns i ≡ Some n → j ≡ length ts + i → Stands (grown ts ns) j n
unfolding grown each_names_earlier
stands ts [] i j n h k e = absurd (none-some n k)
stands ts (m ∷ ns) zero j n h k e =
    let same = same_Some m n k in
    let here : length ts ≡ j = omega arith in
    record {
      before = ts;
      short = here;
      within = within_grown ts (m ∷ ns);
      names = subst (λ x. names_earlier ts x ≡ true) same (both (names_earlier ts m) (each_names_earlier (ts ++ built ts m ∷ []) ns) h).0;
      is = subst (λ i. slice_get (grown (ts ++ built ts m ∷ []) ns) i ≡ Some (built ts n)) here
          (within_grown (ts ++ built ts m ∷ []) ns (length ts) (built ts n)
          (subst (λ x. slice_get (ts ++ built ts x ∷ []) (length ts) ≡ Some (built ts n)) (sym same) (last_place ts (built ts n))));
    }
stands ts (m ∷ ns) (suc i) j n h k e =
    stands (ts ++ built ts m ∷ []) ns i j n (both (names_earlier ts m) (each_names_earlier (ts ++ built ts m ∷ []) ns) h).1 k (omega (arith, length-append ts (built ts m ∷ [])))

-- made of the terms now, too
pub stands_built : {ts : List Term} {i : ℕ} {n : Node} → Stands ts i n → slice_get ts i ≡ Some (built ts n)
stands_built {ts} {i} {n} s = s.is ∙ ap Some (sym (built_stays s.before ts s.within n s.names))

pub stands_names : {ts : List Term} {i : ℕ} {n : Node} → Stands ts i n → names_earlier ts n ≡ true
stands_names {ts} {i} {n} s = names_stay s.before ts s.within n s.names
