-- Parts of a part of an obligation occur in it, and the universe holds the parts of its terms.
use Rattle.std.specs.Prelude.{◌≡◌, ℕ, pos, Bool, true, false, cond, List, [], ◌∷◌, ◌++◌, Option, Some, None, Contains, refl}
use Rattle.std.proofs.Common.{sym, ap, subst, inl, inr}
use Rattle.std.specs.List.{flat_map}
use Rattle.toy_imp.specs.declared.condition.Condition.{Condition}
use Rattle.rule_terms.specs.Term.{StoreTerm, left_store, right_store, put, run, ValueTerm, num, get, ev, add, sub, mul, ValueTerms, no_terms, term}
use Rattle.rule_terms.specs.Parts.{Part, a_store, a_value, a_place, an_expr, a_test, store_parts, value_parts, terms_parts, atom_parts, literal_parts, literals_parts, gives_parts, conjunct_parts, conjuncts_parts, obligation_parts, store_in, value_in, stores_among, values_among}
use Rattle.rule_terms.specs.Listed.{commute, ignores}
use Rattle.term_universe.specs.Universe.{commuted, run_first, write_first, exchanged, reading, test_of, stores_near, values_near, tests_near, universe_stores, universe_values, universe_tests}
use Rattle.term_universe.specs.UniverseLaws.{InUniverse, SubtermsAreThere, SameMembers, OrderIsFree}
use Rattle.rule_terms.specs.declared.obligation.Atom.{Atom}
use Rattle.rule_terms.specs.declared.obligation.Atom.TheVariants.{SameName, SameStore, SameValue, AtMost, Ends, Holds}
use Rattle.rule_terms.specs.declared.obligation.Literal.{Literal}
use Rattle.rule_terms.specs.declared.obligation.Conjunct.{Conjunct}
use Rattle.rule_terms.specs.declared.obligation.Obligation.{Obligation}
use Rattle.rule_terms.proofs.Members.{In, in_from, from_in, in_left, in_right, in_either}
use Rattle.term_universe.proofs.Listings.{in_flat, Source, source, Within, within_itself, within_append, within_flat}
use Rattle.term_universe.proofs.Universes.{near_stores, near_values, near_tests}

-- what occurs in a part
abbrev inside : Part → List Part
inside (a_store s) = store_parts s
inside (a_value v) = value_parts v
inside (a_place p) = terms_parts p.indices
inside (an_expr k) = []
inside (a_test k) = []

-- with each part a list has what occurs in it
abbrev Closed : List Part → Type 0
Closed ps = (x p : Part) → In x ps → In p (inside x) → In p ps

closed_two : (xs ys : List Part) → Closed xs → Closed ys → Closed (xs ++ ys)
closed_two xs ys f g x p h k = elim (in_either xs ys x h) [ inl a ↦ in_left xs ys p (f x p a k) | inr b ↦ in_right xs ys p (g x p b k) ]

-- a part in front, all of what occurs in it being there
closed_top : (top : Part) (ps : List Part) → ((p : Part) → In p (inside top) → In p (top ∷ ps)) → Closed ps → Closed (top ∷ ps)
closed_top top ps f g x p (inl e) k = f p (subst (λ y. In p (inside y)) (sym e) k)
closed_top top ps f g x p (inr h) k = inr (g x p h k)

closed_flat : {A : Type 0} (f : A → List Part) → ((a : A) → Closed (f a)) → (xs : List A) → Closed (flat_map f xs)
closed_flat f g xs x p h k =
    let s : Source f xs x = source f xs x h in
    in_flat f xs s.item p s.there (g s.item x p s.its k)

closed_none : Closed []
closed_none x p h k = elim h [ ]

mutual
  unfolding store_parts

  store_closed : (s : StoreTerm) → Closed (store_parts s)
  store_closed left_store = closed_top (a_store left_store) [] (λ p h. h) closed_none
  store_closed right_store = closed_top (a_store right_store) [] (λ p h. h) closed_none
  store_closed (put s x is v) =
      closed_top (a_store (put s x is v)) (a_place (record { name = x; indices = is }) ∷ (store_parts s ++ (terms_parts is ++ value_parts v))) (λ p h. h)
      (closed_top (a_place (record { name = x; indices = is })) (store_parts s ++ (terms_parts is ++ value_parts v))
      (λ p h. inr (in_right (store_parts s) (terms_parts is ++ value_parts v) p (in_left (terms_parts is) (value_parts v) p h)))
      (closed_two (store_parts s) (terms_parts is ++ value_parts v) (store_closed s) (closed_two (terms_parts is) (value_parts v) (terms_closed is) (value_closed v))))
  store_closed (run k s) = closed_top (a_store (run k s)) (store_parts s) (λ p h. h) (store_closed s)

  value_closed : (v : ValueTerm) → Closed (value_parts v)
  value_closed (num z) = closed_top (a_value (num z)) [] (λ p h. h) closed_none
  value_closed (get x is s) =
      closed_top (a_value (get x is s)) (a_place (record { name = x; indices = is }) ∷ (terms_parts is ++ store_parts s)) (λ p h. h)
      (closed_top (a_place (record { name = x; indices = is })) (terms_parts is ++ store_parts s)
      (λ p h. inr (in_left (terms_parts is) (store_parts s) p h))
      (closed_two (terms_parts is) (store_parts s) (terms_closed is) (store_closed s)))
  value_closed (ev k s) = closed_top (a_value (ev k s)) (an_expr k ∷ store_parts s) (λ p h. h) (closed_top (an_expr k) (store_parts s) (λ p h. elim h [ ]) (store_closed s))
  value_closed (add a b) = closed_top (a_value (add a b)) (value_parts a ++ value_parts b) (λ p h. h) (closed_two (value_parts a) (value_parts b) (value_closed a) (value_closed b))
  value_closed (sub a b) = closed_top (a_value (sub a b)) (value_parts a ++ value_parts b) (λ p h. h) (closed_two (value_parts a) (value_parts b) (value_closed a) (value_closed b))
  value_closed (mul a b) = closed_top (a_value (mul a b)) (value_parts a ++ value_parts b) (λ p h. h) (closed_two (value_parts a) (value_parts b) (value_closed a) (value_closed b))

  terms_closed : (vs : ValueTerms) → Closed (terms_parts vs)
  terms_closed no_terms = closed_none
  terms_closed (term v vs) = closed_two (value_parts v) (terms_parts vs) (value_closed v) (terms_closed vs)

atom_closed : (a : Atom) → Closed (atom_parts a)
unfolding atom_parts
atom_closed (SameName x y) = closed_none
atom_closed (SameStore a b) = closed_two (store_parts a) (store_parts b) (store_closed a) (store_closed b)
atom_closed (SameValue a b) = closed_two (value_parts a) (value_parts b) (value_closed a) (value_closed b)
atom_closed (AtMost a b c) = closed_two (value_parts a) (value_parts b) (value_closed a) (value_closed b)
atom_closed (Ends s) = store_closed s
atom_closed (Holds k s) = closed_top (a_test k) (store_parts s) (λ p h. elim h [ ]) (store_closed s)

literals_closed : (ls : List Literal) → Closed (literals_parts ls)
literals_closed = closed_flat literal_parts (λ l. atom_closed l.atom)

gives_closed : (g : Option Literal) → Closed (gives_parts g)
gives_closed None = closed_none
gives_closed (Some l) = atom_closed l.atom

conjunct_closed : (c : Conjunct) → Closed (conjunct_parts c)
conjunct_closed c = closed_two (literals_parts c.when) (gives_parts c.gives) (literals_closed c.when) (gives_closed c.gives)

obligation_closed : (ob : Obligation) → Closed (obligation_parts ob)
unfolding obligation_parts
obligation_closed ob =
    closed_two (conjuncts_parts ob.known) (literals_parts ob.path ++ conjunct_parts ob.goal) (closed_flat conjunct_parts conjunct_closed ob.known)
    (closed_two (literals_parts ob.path) (conjunct_parts ob.goal) (literals_closed ob.path) (conjunct_closed ob.goal))

-- a store term or value term that occurs is in what is near the parts; what is read of stores is among the parts
abbrev Near : List Part → List StoreTerm → List ValueTerm → Part → Type 0
Near ps ss vs (a_store s) = In s ss
Near ps ss vs (a_value v) = In v vs
Near ps ss vs (a_place p) = In (a_place p) ps
Near ps ss vs (an_expr k) = In (an_expr k) ps
Near ps ss vs (a_test k) = In (a_test k) ps

module _ (cs : List Condition) (ps : List Part) (closed : Closed ps) where
  abbrev ss : List StoreTerm
  ss = stores_near cs ps

  abbrev vs : List ValueTerm
  vs = values_near ss ps

  occurs : (p : Part) → In p ps → Near ps ss vs p
  occurs (a_store s) h = inr (inr (in_left (stores_among ps) (flat_map (exchanged cs) (stores_among ps)) s (in_flat store_in ps (a_store s) s h (inl refl))))
  occurs (a_value v) h = inr (inr (in_left (values_among ps) (flat_map (λ s. flat_map (reading s) ps) ss) v (in_flat value_in ps (a_value v) v h (inl refl))))
  occurs (a_place p) h = h
  occurs (an_expr k) h = h
  occurs (a_test k) h = h

  -- all that occurs in a list of parts is near
  abbrev AllNear : List Part → Type 0
  AllNear qs = (p : Part) → In p qs → Near ps ss vs p

  near_two : (xs ys : List Part) → AllNear xs → AllNear ys → AllNear (xs ++ ys)
  near_two xs ys f g p h = elim (in_either xs ys p h) [ inl a ↦ f p a | inr b ↦ g p b ]

  near_top : (top : Part) (qs : List Part) → Near ps ss vs top → AllNear qs → AllNear (top ∷ qs)
  near_top top qs n f p (inl e) = subst (Near ps ss vs) e n
  near_top top qs n f p (inr h) = f p h

  -- what occurs in a part is near
  near_part : (x : Part) → In x ps → AllNear (inside x)
  near_part x h p k = occurs p (closed x p h k)

  the_store : (x : Part) (s : StoreTerm) → In s (store_in x) → In x ps → In (a_store s) ps
  the_store (a_store t) s (inl e) h = subst (λ u. In (a_store u) ps) e h
  the_store (a_store t) s (inr k) h = elim k [ ]
  the_store (a_value v) s k h = elim k [ ]
  the_store (a_place p) s k h = elim k [ ]
  the_store (an_expr j) s k h = elim k [ ]
  the_store (a_test j) s k h = elim k [ ]

  the_value : (x : Part) (v : ValueTerm) → In v (value_in x) → In x ps → In (a_value v) ps
  the_value (a_value w) v (inl e) h = subst (λ u. In (a_value u) ps) e h
  the_value (a_value w) v (inr k) h = elim k [ ]
  the_value (a_store s) v k h = elim k [ ]
  the_value (a_place p) v k h = elim k [ ]
  the_value (an_expr j) v k h = elim k [ ]
  the_value (a_test j) v k h = elim k [ ]

  store_occurs : (s : StoreTerm) → In s (stores_among ps) → In (a_store s) ps
  store_occurs s h = let o : Source store_in ps s = source store_in ps s h in the_store o.item s o.its o.there

  value_occurs : (v : ValueTerm) → In v (values_among ps) → In (a_value v) ps
  value_occurs v h = let o : Source value_in ps v = source value_in ps v h in the_value o.item v o.its o.there

  -- a store term that an exchange makes is near
  made : (t s : StoreTerm) → In t (stores_among ps) → In s (exchanged cs t) → In s ss
  made t s h k = inr (inr (in_right (stores_among ps) (flat_map (exchanged cs) (stores_among ps)) s (in_flat (exchanged cs) (stores_among ps) t s h k)))

  by_test : {X : Type 0} (b : Bool) (xs : List X) (x : X) → In x (cond b xs []) → (b ≡ true) × In x xs
  by_test true xs x h = (refl, h)
  by_test false xs x h = elim h [ ]

  when_true : {X : Type 0} (b : Bool) (xs : List X) (x : X) → b ≡ true → In x xs → In x (cond b xs [])
  when_true b xs x e h = subst (λ c. In x (cond c xs [])) (sym e) h

  -- exchanged terms, and what occurs in them
  commuted_near : (t s : StoreTerm) → In (a_store t) ps → In s (commuted cs t) → ((u : StoreTerm) → In u (commuted cs t) → In u ss) → AllNear (store_parts s)
  unfolding commuted store_parts
  commuted_near (run a (run b u)) s h k all =
      let tested = by_test (commute cs b a) (run a u ∷ run b (run a u) ∷ []) s k in
      let rest : AllNear (store_parts u) = λ p q. near_part (a_store (run a (run b u))) h p (inr (inr q)) in
      let one : In (run a u) ss = all (run a u) (when_true (commute cs b a) (run a u ∷ run b (run a u) ∷ []) (run a u) tested.0 (inl refl)) in
      let two : In (run b (run a u)) ss = all (run b (run a u)) (when_true (commute cs b a) (run a u ∷ run b (run a u) ∷ []) (run b (run a u)) tested.0 (inr (inl refl))) in
      elim tested.1 [
        | inl e ↦ subst (λ x. AllNear (store_parts x)) e (near_top (a_store (run a u)) (store_parts u) one rest)
        | inr m ↦ elim m [
          | inl e ↦ subst (λ x. AllNear (store_parts x)) e (near_top (a_store (run b (run a u))) (a_store (run a u) ∷ store_parts u) two (near_top (a_store (run a u)) (store_parts u) one rest))
          | inr n ↦ elim n [ ]
        ]
      ]
  commuted_near left_store s h k all = elim k [ ]
  commuted_near right_store s h k all = elim k [ ]
  commuted_near (put t x is v) s h k all = elim k [ ]
  commuted_near (run a left_store) s h k all = elim k [ ]
  commuted_near (run a right_store) s h k all = elim k [ ]
  commuted_near (run a (put t x is v)) s h k all = elim k [ ]

  -- a write into a store, all of it near
  put_near : (u : StoreTerm) (x : ℕ) (is : ValueTerms) (v : ValueTerm) → In (a_place (record { name = x; indices = is })) ps → In (put u x is v) ss → AllNear (store_parts u) → AllNear (terms_parts is) → AllNear (value_parts v) → AllNear (store_parts (put u x is v))
  unfolding store_parts
  put_near u x is v there h a b c =
      near_top (a_store (put u x is v)) (a_place (record { name = x; indices = is }) ∷ (store_parts u ++ (terms_parts is ++ value_parts v))) h
      (near_top (a_place (record { name = x; indices = is })) (store_parts u ++ (terms_parts is ++ value_parts v)) there
      (near_two (store_parts u) (terms_parts is ++ value_parts v) a (near_two (terms_parts is) (value_parts v) b c)))

  run_near : (k : ℕ) (u : StoreTerm) → In (run k u) ss → AllNear (store_parts u) → AllNear (store_parts (run k u))
  unfolding store_parts
  run_near k u h a = near_top (a_store (run k u)) (store_parts u) h a

  run_first_near : (t s : StoreTerm) → In (a_store t) ps → In s (run_first cs t) → ((u : StoreTerm) → In u (run_first cs t) → In u ss) → AllNear (store_parts s)
  unfolding run_first store_parts
  run_first_near (run j (put u x is v)) s h k all =
      let made_two : List StoreTerm = run j u ∷ put (run j u) x is v ∷ [] in
      let tested = by_test (ignores cs j x) made_two s k in
      let whole : AllNear (store_parts (run j (put u x is v))) = near_part (a_store (run j (put u x is v))) h in
      let place : In (a_place (record { name = x; indices = is })) ps = whole (a_place (record { name = x; indices = is })) (inr (inr (inl refl))) in
      let stores : AllNear (store_parts u) = λ p q. whole p (inr (inr (inr (in_left (store_parts u) (terms_parts is ++ value_parts v) p q)))) in
      let indices : AllNear (terms_parts is) = λ p q. whole p (inr (inr (inr (in_right (store_parts u) (terms_parts is ++ value_parts v) p (in_left (terms_parts is) (value_parts v) p q))))) in
      let values : AllNear (value_parts v) = λ p q. whole p (inr (inr (inr (in_right (store_parts u) (terms_parts is ++ value_parts v) p (in_right (terms_parts is) (value_parts v) p q))))) in
      let one : In (run j u) ss = all (run j u) (when_true (ignores cs j x) made_two (run j u) tested.0 (inl refl)) in
      let two : In (put (run j u) x is v) ss = all (put (run j u) x is v) (when_true (ignores cs j x) made_two (put (run j u) x is v) tested.0 (inr (inl refl))) in
      elim tested.1 [
        | inl e ↦ subst (λ y. AllNear (store_parts y)) e (run_near j u one stores)
        | inr m ↦ elim m [
          | inl e ↦ subst (λ y. AllNear (store_parts y)) e (put_near (run j u) x is v place two (run_near j u one stores) indices values)
          | inr n ↦ elim n [ ]
        ]
      ]
  run_first_near left_store s h k all = elim k [ ]
  run_first_near right_store s h k all = elim k [ ]
  run_first_near (put t x is v) s h k all = elim k [ ]
  run_first_near (run a left_store) s h k all = elim k [ ]
  run_first_near (run a right_store) s h k all = elim k [ ]
  run_first_near (run a (run b t)) s h k all = elim k [ ]

  write_first_near : (t s : StoreTerm) → In (a_store t) ps → In s (write_first cs t) → ((u : StoreTerm) → In u (write_first cs t) → In u ss) → AllNear (store_parts s)
  unfolding write_first store_parts
  write_first_near (put (run j u) x is v) s h k all =
      let made_two : List StoreTerm = put u x is v ∷ run j (put u x is v) ∷ [] in
      let tested = by_test (ignores cs j x) made_two s k in
      let whole : AllNear (store_parts (put (run j u) x is v)) = near_part (a_store (put (run j u) x is v)) h in
      let place : In (a_place (record { name = x; indices = is })) ps = whole (a_place (record { name = x; indices = is })) (inr (inl refl)) in
      let stores : AllNear (store_parts u) = λ p q. whole p (inr (inr (in_left (store_parts (run j u)) (terms_parts is ++ value_parts v) p (inr q)))) in
      let indices : AllNear (terms_parts is) = λ p q. whole p (inr (inr (in_right (store_parts (run j u)) (terms_parts is ++ value_parts v) p (in_left (terms_parts is) (value_parts v) p q)))) in
      let values : AllNear (value_parts v) = λ p q. whole p (inr (inr (in_right (store_parts (run j u)) (terms_parts is ++ value_parts v) p (in_right (terms_parts is) (value_parts v) p q)))) in
      let one : In (put u x is v) ss = all (put u x is v) (when_true (ignores cs j x) made_two (put u x is v) tested.0 (inl refl)) in
      let two : In (run j (put u x is v)) ss = all (run j (put u x is v)) (when_true (ignores cs j x) made_two (run j (put u x is v)) tested.0 (inr (inl refl))) in
      let written : AllNear (store_parts (put u x is v)) = put_near u x is v place one stores indices values in
      elim tested.1 [
        | inl e ↦ subst (λ y. AllNear (store_parts y)) e written
        | inr m ↦ elim m [
          | inl e ↦ subst (λ y. AllNear (store_parts y)) e (run_near j (put u x is v) two written)
          | inr n ↦ elim n [ ]
        ]
      ]
  write_first_near left_store s h k all = elim k [ ]
  write_first_near right_store s h k all = elim k [ ]
  write_first_near (run a t) s h k all = elim k [ ]
  write_first_near (put left_store x is v) s h k all = elim k [ ]
  write_first_near (put right_store x is v) s h k all = elim k [ ]
  write_first_near (put (put t y js w) x is v) s h k all = elim k [ ]

  left_near : AllNear (store_parts left_store)
  unfolding store_parts
  left_near = near_top (a_store left_store) [] (inl refl) (λ p h. elim h [ ])

  right_near : AllNear (store_parts right_store)
  unfolding store_parts
  right_near = near_top (a_store right_store) [] (inr (inl refl)) (λ p h. elim h [ ])

  exchanged_near : (t s : StoreTerm) → In t (stores_among ps) → In s (exchanged cs t) → AllNear (store_parts s)
  exchanged_near t s h k =
      let there : In (a_store t) ps = store_occurs t h in
      elim (in_either (commuted cs t) (run_first cs t ++ write_first cs t) s k) [
        | inl a ↦ commuted_near t s there a (λ u m. made t u h (in_left (commuted cs t) (run_first cs t ++ write_first cs t) u m))
        | inr b ↦ elim (in_either (run_first cs t) (write_first cs t) s b) [
          | inl c ↦ run_first_near t s there c (λ u m. made t u h (in_right (commuted cs t) (run_first cs t ++ write_first cs t) u (in_left (run_first cs t) (write_first cs t) u m)))
          | inr d ↦ write_first_near t s there d (λ u m. made t u h (in_right (commuted cs t) (run_first cs t ++ write_first cs t) u (in_right (run_first cs t) (write_first cs t) u m)))
        ]
      ]

  pub store_near : (s : StoreTerm) → In s ss → AllNear (store_parts s)
  store_near s (inl e) = subst (λ x. AllNear (store_parts x)) e left_near
  store_near s (inr (inl e)) = subst (λ x. AllNear (store_parts x)) e right_near
  store_near s (inr (inr h)) = elim (in_either (stores_among ps) (flat_map (exchanged cs) (stores_among ps)) s h) [
    | inl a ↦ near_part (a_store s) (store_occurs s a)
    | inr b ↦ (let o : Source (exchanged cs) (stores_among ps) s = source (exchanged cs) (stores_among ps) s b in exchanged_near o.item s o.there o.its)
  ]

  number_near : (n : ℕ) → In (num (pos n)) vs → AllNear (value_parts (num (pos n)))
  unfolding store_parts
  number_near n h = near_top (a_value (num (pos n))) [] h (λ p k. elim k [ ])

  -- a reading of a store that is near, by a part that occurs
  reading_near : (s : StoreTerm) (x : Part) (v : ValueTerm) → In s ss → In x ps → In v (reading s x) → In v vs → AllNear (value_parts v)
  unfolding store_parts
  reading_near s (a_place p) v h k (inl e) there =
      let here : In (get p.name p.indices s) vs = subst (λ w. In w vs) (sym e) there in
      subst (λ w. AllNear (value_parts w)) e
      (near_top (a_value (get p.name p.indices s)) (a_place p ∷ (terms_parts p.indices ++ store_parts s)) here
      (near_top (a_place p) (terms_parts p.indices ++ store_parts s) k
      (near_two (terms_parts p.indices) (store_parts s) (near_part (a_place p) k) (store_near s h))))
  reading_near s (a_place p) v h k (inr m) there = elim m [ ]
  reading_near s (an_expr j) v h k (inl e) there =
      let here : In (ev j s) vs = subst (λ w. In w vs) (sym e) there in
      subst (λ w. AllNear (value_parts w)) e
      (near_top (a_value (ev j s)) (an_expr j ∷ store_parts s) here (near_top (an_expr j) (store_parts s) k (store_near s h)))
  reading_near s (an_expr j) v h k (inr m) there = elim m [ ]
  reading_near s (a_store t) v h k m there = elim m [ ]
  reading_near s (a_value w) v h k m there = elim m [ ]
  reading_near s (a_test j) v h k m there = elim m [ ]

  read_near : (v : ValueTerm) → In v vs → In v (flat_map (λ s. flat_map (reading s) ps) ss) → AllNear (value_parts v)
  read_near v there h =
      let o : Source (λ s. flat_map (reading s) ps) ss v = source (λ s. flat_map (reading s) ps) ss v h in
      let q : Source (reading o.item) ps v = source (reading o.item) ps v o.its in
      reading_near o.item q.item v o.there q.there q.its there

  pub value_near : (v : ValueTerm) → In v vs → AllNear (value_parts v)
  value_near v (inl e) = subst (λ w. AllNear (value_parts w)) e (number_near 0 (inl refl))
  value_near v (inr (inl e)) = subst (λ w. AllNear (value_parts w)) e (number_near 1 (inr (inl refl)))
  value_near v (inr (inr h)) = elim (in_either (values_among ps) (flat_map (λ s. flat_map (reading s) ps) ss) v h) [
    | inl a ↦ near_part (a_value v) (value_occurs v a)
    | inr b ↦ read_near v (inr (inr h)) b
  ]

  the_test : (s : StoreTerm) (x : Part) (t : ℕ × StoreTerm) → In t (test_of s x) → s ≡ t.1
  the_test s (a_test k) t (inl e) = ap (λ (u : ℕ × StoreTerm). u.1) e
  the_test s (a_test k) t (inr m) = elim m [ ]
  the_test s (a_store u) t m = elim m [ ]
  the_test s (a_value w) t m = elim m [ ]
  the_test s (a_place p) t m = elim m [ ]
  the_test s (an_expr j) t m = elim m [ ]

  pub test_near : (t : ℕ × StoreTerm) → In t (tests_near ss ps) → In t.1 ss
  test_near t h =
      let o : Source (λ s. flat_map (test_of s) ps) ss t = source (λ s. flat_map (test_of s) ps) ss t h in
      let q : Source (test_of o.item) ps t = source (test_of o.item) ps t o.its in
      subst (λ s. In s ss) (the_test o.item q.item t q.its) o.there

-- what a part reads of a store of the universe
read_there : (ob : Obligation) (s : StoreTerm) (x : Part) (v : ValueTerm) → Contains (universe_stores ob) s → In x (obligation_parts ob) → In v (reading s x) → In v (universe_values ob)
unfolding universe_values
read_there ob s x v k h r =
    inr (inr (in_right (values_among (obligation_parts ob)) (flat_map (λ t. flat_map (reading t) (obligation_parts ob)) (universe_stores ob)) v
    (in_flat (λ t. flat_map (reading t) (obligation_parts ob)) (universe_stores ob) s v (in_from (universe_stores ob) s k) (in_flat (reading s) (obligation_parts ob) x v h r))))

in_universe : (ob : Obligation) (p : Part) → Near (obligation_parts ob) (universe_stores ob) (universe_values ob) p → InUniverse ob p
unfolding universe_stores universe_values universe_tests
in_universe ob (a_store s) h = from_in (universe_stores ob) s h
in_universe ob (a_value v) h = from_in (universe_values ob) v h
in_universe ob (a_place p) h = λ s k. from_in (universe_values ob) (get p.name p.indices s) (read_there ob s (a_place p) (get p.name p.indices s) k h (inl refl))
in_universe ob (an_expr j) h = λ s k. from_in (universe_values ob) (ev j s) (read_there ob s (an_expr j) (ev j s) k h (inl refl))
in_universe ob (a_test j) h = λ s k. from_in (universe_tests ob) (j, s) (in_flat (λ t. flat_map (test_of t) (obligation_parts ob)) (universe_stores ob) s (j, s) (in_from (universe_stores ob) s k) (in_flat (test_of s) (obligation_parts ob) (a_test j) (j, s) h (inl refl)))

occurrences_hold : (ob : Obligation) (p : Part) → Contains (obligation_parts ob) p → InUniverse ob p
unfolding universe_stores universe_values
occurrences_hold ob p h = in_universe ob p (occurs ob.conditions (obligation_parts ob) (obligation_closed ob) p (in_from (obligation_parts ob) p h))

stores_hold : (ob : Obligation) (s : StoreTerm) → Contains (universe_stores ob) s → (p : Part) → Contains (store_parts s) p → InUniverse ob p
unfolding universe_stores universe_values
stores_hold ob s h p k = in_universe ob p (store_near ob.conditions (obligation_parts ob) (obligation_closed ob) s (in_from (universe_stores ob) s h) p (in_from (store_parts s) p k))

values_hold : (ob : Obligation) (v : ValueTerm) → Contains (universe_values ob) v → (p : Part) → Contains (value_parts v) p → InUniverse ob p
unfolding universe_stores universe_values
values_hold ob v h p k = in_universe ob p (value_near ob.conditions (obligation_parts ob) (obligation_closed ob) v (in_from (universe_values ob) v h) p (in_from (value_parts v) p k))

tests_hold : (ob : Obligation) (t : ℕ × StoreTerm) → Contains (universe_tests ob) t → Contains (universe_stores ob) t.1
unfolding universe_stores universe_tests
tests_hold ob t h = from_in (universe_stores ob) t.1 (test_near ob.conditions (obligation_parts ob) (obligation_closed ob) t (in_from (universe_tests ob) t h))

pub subterms_are_there : SubtermsAreThere
subterms_are_there = (occurrences_hold, stores_hold, values_hold, tests_hold)

-- the order of what is known

both_within : {X : Type 0} (xs ys : List X) → SameMembers xs ys → Within xs ys × Within ys xs
both_within xs ys h = (
  record { each = λ x k. in_from ys x ((h.each x).0 (from_in xs x k)) },
  record { each = λ x k. in_from xs x ((h.each x).1 (from_in ys x k)) },
)

members : {X : Type 0} (xs ys : List X) → Within xs ys → Within ys xs → SameMembers xs ys
members xs ys a b = record { each = λ x. ((λ c. from_in ys x (a.each x (in_from xs x c))), (λ c. from_in xs x (b.each x (in_from ys x c)))) }

parts_within : (ob other : Obligation) → ob.path ≡ other.path → ob.goal ≡ other.goal → Within ob.known other.known → Within (obligation_parts ob) (obligation_parts other)
unfolding obligation_parts
parts_within ob other p g w =
    within_append (conjuncts_parts ob.known) (literals_parts ob.path ++ conjunct_parts ob.goal) (conjuncts_parts other.known) (literals_parts other.path ++ conjunct_parts other.goal)
    (within_flat conjunct_parts conjunct_parts ob.known other.known w (λ c. within_itself (conjunct_parts c)))
    (subst (λ ps. Within (literals_parts ob.path ++ conjunct_parts ob.goal) ps) (λ i. literals_parts (p i) ++ conjunct_parts (g i)) (within_itself (literals_parts ob.path ++ conjunct_parts ob.goal)))

pub order_is_free : OrderIsFree
unfolding universe_stores universe_values universe_tests
order_is_free ob known h =
    let other : Obligation = record ob { known = known } in
    let w = both_within ob.known known h in
    let to : Within (obligation_parts ob) (obligation_parts other) = parts_within ob other refl refl w.0 in
    let back : Within (obligation_parts other) (obligation_parts ob) = parts_within other ob refl refl w.1 in
    let stores_to = near_stores ob.conditions (obligation_parts ob) (obligation_parts other) to in
    let stores_back = near_stores ob.conditions (obligation_parts other) (obligation_parts ob) back in
    record {
      stores = members _ _ stores_to stores_back;
      values = members _ _ (near_values _ _ _ _ stores_to to) (near_values _ _ _ _ stores_back back);
      tests = members _ _ (near_tests _ _ _ _ stores_to to) (near_tests _ _ _ _ stores_back back);
    }
