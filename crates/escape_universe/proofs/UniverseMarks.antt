-- The tests of marks and parts say exactly that the terms with marks are those of the universe.
use Rattle.std.proofs.Common.{◌≡◌, ℕ, pos, Bool, true, false, cond, not, ◌==◌, ◌&&◌, ◌||◌, inl, inr, ⊎_elim, List, [], ◌∷◌, ◌++◌, map, Some, is_some, sym, ◌∙◌, ap, subst, refl, true≢false}
use Rattle.std.specs.List.{list_all, list_any, flat_map}
use Rattle.std.proofs.lemmas.Bool.{and_parts, and_from}
use Rattle.rule_terms.specs.Term.{StoreTerm, left_store, right_store, ValueTerm, num, get, ev, Place}
use Rattle.rule_terms.specs.Order.{store_same, value_same}
use Rattle.rule_terms.specs.Parts.{Part, a_store, a_value, a_place, an_expr, a_test, obligation_parts, store_in, value_in, stores_among, values_among}
use Rattle.rule_terms.specs.declared.obligation.Obligation.{Obligation}
use Rattle.rule_terms.proofs.Members.{In, in_from, from_in, in_left, in_right, in_either}
use Rattle.term_universe.specs.Universe.{exchanged, reading, test_of, universe_stores, universe_values, universe_tests}
use Rattle.term_universe.proofs.Listings.{Source, source, in_flat, any_in, in_any}
use Rattle.law_clauses.specs.Shapes.{place}
use Rattle.law_clauses.proofs.Same.{or_cases, store_is, value_is, place_is, number_is}
use Rattle.law_clauses.proofs.Itself.{store_itself, value_itself, place_itself, number_itself}
use Rattle.escape_marks.specs.declared.escape.StoreMark.{StoreMark}
use Rattle.escape_marks.specs.declared.escape.ValueMark.{ValueMark}
use Rattle.escape_marks.specs.declared.escape.TestMark.{TestMark}
use Rattle.escape_marks.specs.declared.escape.Escape.{Escape}
use Rattle.escape_marks.specs.Marks.{store_mark, value_mark, test_mark}
use Rattle.escape_universe.specs.MarksUniverse.{store_of, value_of, marked_test, MarksItsTerms}
use Rattle.escape_universe.specs.Covered.{same_part, is_near, has_store, has_value, has_test, is_covered, uncovered, occurs, covers, store_there, is_read, value_there, test_there, stores_there, values_there, tests_there, marks_match}

-- ---- tests
or_left : (a b : Bool) → a ≡ true → (a || b) ≡ true
or_left a b h = ap (λ t. t || b) h

or_right : (a b : Bool) → b ≡ true → (a || b) ≡ true
or_right true b h = refl
or_right false b h = h

not_none : (b : Bool) → not (not b) ≡ true → b ≡ true
not_none true h = refl
not_none false h = absurd (true≢false (sym h))

-- ---- members of lists
pub record Some_of {X : Type 0} (p : X → Bool) (xs : List X) : Type 0 where
  pub item : X
  pub there : In item xs
  pub passes : p item ≡ true

some_of : {X : Type 0} (p : X → Bool) (xs : List X) → list_any p xs ≡ true → Some_of p xs
some_of p [] h = absurd (true≢false (sym h))
some_of p (x ∷ xs) h = ⊎_elim (λ g. record { item = x; there = inl refl; passes = g }) (λ g. let s : Some_of p xs = some_of p xs g in record { item = s.item; there = inr s.there; passes = s.passes }) (or_cases (p x) (list_any p xs) h)

of_some : {X : Type 0} (p : X → Bool) (xs : List X) (x : X) → In x xs → p x ≡ true → list_any p xs ≡ true
of_some p [] x h g = elim h [ ]
of_some p (y ∷ ys) x (inl e) g = or_left (p y) (list_any p ys) (subst (λ z. p z ≡ true) (sym e) g)
of_some p (y ∷ ys) x (inr h) g = or_right (p y) (list_any p ys) (of_some p ys x h g)

none_of : {X : Type 0} (p : X → Bool) (xs : List X) → not (list_any (λ x. not (p x)) xs) ≡ true → (x : X) → In x xs → p x ≡ true
none_of p xs h x k = by_test (p x) refl
  where
    by_test : (b : Bool) → p x ≡ b → p x ≡ true
    by_test true e = e
    by_test false e = absurd (true≢false (sym h ∙ ap not (of_some (λ y. not (p y)) xs x k (ap not e))))

of_none : {X : Type 0} (p : X → Bool) (xs : List X) → ((x : X) → In x xs → p x ≡ true) → not (list_any (λ x. not (p x)) xs) ≡ true
of_none p [] f = refl
of_none p (x ∷ xs) f = both (p x) (list_any (λ y. not (p y)) xs) (f x (inl refl)) (of_none p xs (λ y h. f y (inr h)))
  where
    both : (a b : Bool) → a ≡ true → not b ≡ true → not (not a || b) ≡ true
    both true b h k = k
    both false b h k = absurd (true≢false (sym h))

-- what all items pass under a view, its image passes
all_in : {M X : Type 0} (f : M → X) (p : X → Bool) (ms : List M) → list_all (λ m. p (f m)) ms ≡ true → (x : X) → In x (map f ms) → p x ≡ true
all_in f p [] h x k = elim k [ ]
all_in f p (m ∷ ms) h x (inl e) = subst (λ y. p y ≡ true) e (and_parts (p (f m)) (list_all (λ n. p (f n)) ms) h).0
all_in f p (m ∷ ms) h x (inr k) = all_in f p ms (and_parts (p (f m)) (list_all (λ n. p (f n)) ms) h).1 x k

in_all : {M X : Type 0} (f : M → X) (p : X → Bool) (ms : List M) → ((x : X) → In x (map f ms) → p x ≡ true) → list_all (λ m. p (f m)) ms ≡ true
in_all f p [] g = refl
in_all f p (m ∷ ms) g = and_from (p (f m)) (list_all (λ n. p (f n)) ms) (g (f m) (inl refl)) (in_all f p ms (λ x k. g x (inr k)))

each_in : {X : Type 0} (p : X → Bool) (xs : List X) → list_all p xs ≡ true → (x : X) → In x xs → p x ≡ true
each_in p [] h x k = elim k [ ]
each_in p (y ∷ ys) h x (inl e) = subst (λ z. p z ≡ true) e (and_parts (p y) (list_all p ys) h).0
each_in p (y ∷ ys) h x (inr k) = each_in p ys (and_parts (p y) (list_all p ys) h).1 x k

in_each : {X : Type 0} (p : X → Bool) (xs : List X) → ((x : X) → In x xs → p x ≡ true) → list_all p xs ≡ true
in_each p [] g = refl
in_each p (x ∷ xs) g = and_from (p x) (list_all p xs) (g x (inl refl)) (in_each p xs (λ y k. g y (inr k)))

-- ---- a term has a mark exactly where it is among the terms of the marks
store_in_marks : (ms : List StoreMark) (s : StoreTerm) → is_some (store_mark ms s) ≡ true → In s (map store_of ms)
unfolding store_mark
store_in_marks [] s h = absurd (true≢false (sym h))
store_in_marks (m ∷ ms) s h = by_test (store_same s m.store) refl h (λ k. store_in_marks ms s k)
  where
    by_test : (b : Bool) → store_same s m.store ≡ b → is_some (cond b (Some m) (store_mark ms s)) ≡ true → (is_some (store_mark ms s) ≡ true → In s (map store_of ms)) → In s (map store_of (m ∷ ms))
    by_test true e k more = inl (sym (store_is s m.store e))
    by_test false e k more = inr (more k)

marks_have_store : (ms : List StoreMark) (s : StoreTerm) → In s (map store_of ms) → is_some (store_mark ms s) ≡ true
unfolding store_mark
marks_have_store [] s h = elim h [ ]
marks_have_store (m ∷ ms) s (inl e) = ap (λ b. is_some (cond b (Some m) (store_mark ms s))) (subst (λ (t : StoreTerm). store_same s t ≡ true) (sym e) (store_itself s))
marks_have_store (m ∷ ms) s (inr h) = by_test (store_same s m.store) (marks_have_store ms s h)
  where
    by_test : (b : Bool) → is_some (store_mark ms s) ≡ true → is_some (cond b (Some m) (store_mark ms s)) ≡ true
    by_test true k = refl
    by_test false k = k

value_in_marks : (ms : List ValueMark) (v : ValueTerm) → is_some (value_mark ms v) ≡ true → In v (map value_of ms)
unfolding value_mark
value_in_marks [] v h = absurd (true≢false (sym h))
value_in_marks (m ∷ ms) v h = by_test (value_same v m.value) refl h (λ k. value_in_marks ms v k)
  where
    by_test : (b : Bool) → value_same v m.value ≡ b → is_some (cond b (Some m) (value_mark ms v)) ≡ true → (is_some (value_mark ms v) ≡ true → In v (map value_of ms)) → In v (map value_of (m ∷ ms))
    by_test true e k more = inl (sym (value_is v m.value e))
    by_test false e k more = inr (more k)

marks_have_value : (ms : List ValueMark) (v : ValueTerm) → In v (map value_of ms) → is_some (value_mark ms v) ≡ true
unfolding value_mark
marks_have_value [] v h = elim h [ ]
marks_have_value (m ∷ ms) v (inl e) = ap (λ b. is_some (cond b (Some m) (value_mark ms v))) (subst (λ (t : ValueTerm). value_same v t ≡ true) (sym e) (value_itself v))
marks_have_value (m ∷ ms) v (inr h) = by_test (value_same v m.value) (marks_have_value ms v h)
  where
    by_test : (b : Bool) → is_some (value_mark ms v) ≡ true → is_some (cond b (Some m) (value_mark ms v)) ≡ true
    by_test true k = refl
    by_test false k = k

test_in_marks : (ms : List TestMark) (q : ℕ) (s : StoreTerm) → is_some (test_mark ms q s) ≡ true → In (q, s) (map marked_test ms)
unfolding test_mark
test_in_marks [] q s h = absurd (true≢false (sym h))
test_in_marks (m ∷ ms) q s h = by_test (q == m.test && store_same s m.store) refl h (λ k. test_in_marks ms q s k)
  where
    by_test : (b : Bool) → (q == m.test && store_same s m.store) ≡ b → is_some (cond b (Some m) (test_mark ms q s)) ≡ true → (is_some (test_mark ms q s) ≡ true → In (q, s) (map marked_test ms)) → In (q, s) (map marked_test (m ∷ ms))
    by_test true e k more =
        let same = and_parts (q == m.test) (store_same s m.store) e in
        inl (λ j. (sym (number_is q m.test same.0) j, sym (store_is s m.store same.1) j))
    by_test false e k more = inr (more k)

marks_have_test : (ms : List TestMark) (q : ℕ) (s : StoreTerm) → In (q, s) (map marked_test ms) → is_some (test_mark ms q s) ≡ true
unfolding test_mark
marks_have_test [] q s h = elim h [ ]
marks_have_test (m ∷ ms) q s (inl e) =
    ap (λ b. is_some (cond b (Some m) (test_mark ms q s)))
    (and_from (q == m.test) (store_same s m.store) (subst (λ n. (q == n) ≡ true) (λ j. (sym e j).0) (number_itself q)) (subst (λ (t : StoreTerm). store_same s t ≡ true) (λ j. (sym e j).1) (store_itself s)))
marks_have_test (m ∷ ms) q s (inr h) = by_test (q == m.test && store_same s m.store) (marks_have_test ms q s h)
  where
    by_test : (b : Bool) → is_some (test_mark ms q s) ≡ true → is_some (cond b (Some m) (test_mark ms q s)) ≡ true
    by_test true k = refl
    by_test false k = k

-- ---- parts
the_store : (q : Part) (s : StoreTerm) → In s (store_in q) → a_store s ≡ q
the_store (a_store t) s (inl e) = ap a_store (sym e)
the_store (a_store t) s (inr h) = elim h [ ]
the_store (a_value v) s h = elim h [ ]
the_store (a_place p) s h = elim h [ ]
the_store (an_expr k) s h = elim h [ ]
the_store (a_test k) s h = elim h [ ]

the_value : (q : Part) (v : ValueTerm) → In v (value_in q) → a_value v ≡ q
the_value (a_value w) v (inl e) = ap a_value (sym e)
the_value (a_value w) v (inr h) = elim h [ ]
the_value (a_store s) v h = elim h [ ]
the_value (a_place p) v h = elim h [ ]
the_value (an_expr k) v h = elim h [ ]
the_value (a_test k) v h = elim h [ ]

part_is : (p q : Part) → same_part p q ≡ true → p ≡ q
unfolding same_part
part_is (a_value v) (a_value w) h = ap a_value (value_is v w h)
part_is (a_place p) (a_place q) h = ap a_place (place_is p q h)
part_is (an_expr j) (an_expr k) h = ap an_expr (number_is j k h)
part_is (a_test j) (a_test k) h = ap a_test (number_is j k h)
part_is _ _ h = absurd (true≢false (sym h))

module _ (ob : Obligation) (e : Escape) where
  abbrev ps : List Part
  ps = obligation_parts ob

  occurring : (p : Part) → occurs ob e p ≡ true → In p ps
  occurring p h = let s : Some_of (same_part p) ps = some_of (same_part p) ps h in subst (λ q. In q ps) (sym (part_is p s.item s.passes)) s.there

  value_occurs : (v : ValueTerm) → In (a_value v) ps → occurs ob e (a_value v) ≡ true
  unfolding same_part
  value_occurs v h = of_some (same_part (a_value v)) ps (a_value v) h (value_itself v)

  place_occurs : (p : Place) → In (a_place p) ps → occurs ob e (a_place p) ≡ true
  unfolding same_part
  place_occurs p h = of_some (same_part (a_place p)) ps (a_place p) h (place_itself p)

  expr_occurs : (k : ℕ) → In (an_expr k) ps → occurs ob e (an_expr k) ≡ true
  unfolding same_part
  expr_occurs k h = of_some (same_part (an_expr k)) ps (an_expr k) h (number_itself k)

  test_occurs : (k : ℕ) → In (a_test k) ps → occurs ob e (a_test k) ≡ true
  unfolding same_part
  test_occurs k h = of_some (same_part (a_test k)) ps (a_test k) h (number_itself k)

  in_among : (s : StoreTerm) → In (a_store s) ps → In s (stores_among ps)
  in_among s h = in_flat store_in ps (a_store s) s h (inl refl)

  among_in : (s : StoreTerm) → In s (stores_among ps) → In (a_store s) ps
  among_in s h = let f : Source store_in ps s = source store_in ps s h in subst (λ q. In q ps) (sym (the_store f.item s f.its)) f.there

  values_in : (v : ValueTerm) → In v (values_among ps) → In (a_value v) ps
  values_in v h = let f : Source value_in ps v = source value_in ps v h in subst (λ q. In q ps) (sym (the_value f.item v f.its)) f.there

  -- ---- the universe as lists, and the members of each
  abbrev near : List StoreTerm
  near = stores_among ps ++ flat_map (exchanged ob.conditions) (stores_among ps)

  abbrev us : List StoreTerm
  us = left_store ∷ right_store ∷ near

  abbrev readings : List ValueTerm
  readings = flat_map (λ s. flat_map (reading s) ps) us

  abbrev vs : List ValueTerm
  vs = num (pos 0) ∷ num (pos 1) ∷ (values_among ps ++ readings)

  abbrev ts : List (ℕ × StoreTerm)
  ts = flat_map (λ s. flat_map (test_of s) ps) us

  near_part : (t : StoreTerm) (q : Part) → In q ps → is_near ob.conditions t q ≡ true → In t near
  unfolding is_near
  near_part t (a_store s) h g =
      ⊎_elim
      (λ k. in_left (stores_among ps) (flat_map (exchanged ob.conditions) (stores_among ps)) t (subst (λ (u : StoreTerm). In u (stores_among ps)) (sym (store_is t s k)) (in_among s h)))
      (λ k. in_right (stores_among ps) (flat_map (exchanged ob.conditions) (stores_among ps)) t (in_flat (exchanged ob.conditions) (stores_among ps) s t (in_among s h) (any_in store_same store_is store_itself t (exchanged ob.conditions s) k)))
      (or_cases (store_same t s) (list_any (store_same t) (exchanged ob.conditions s)) g)
  near_part t _ h g = absurd (true≢false (sym g))

  near_found : (t : StoreTerm) → list_any (is_near ob.conditions t) ps ≡ true → In t near
  near_found t h = let s : Some_of (is_near ob.conditions t) ps = some_of (is_near ob.conditions t) ps h in near_part t s.item s.there s.passes

  store_found : (t : StoreTerm) → store_there ob e t ≡ true → In t us
  unfolding store_there
  store_found t h =
      ⊎_elim
      (λ g. inl (sym (store_is t left_store g)))
      (λ g. inr (⊎_elim (λ k. inl (sym (store_is t right_store k))) (λ k. inr (near_found t k)) (or_cases (store_same t right_store) (list_any (is_near ob.conditions t) ps) g)))
      (or_cases (store_same t left_store) (store_same t right_store || list_any (is_near ob.conditions t) ps) h)

  itself_near : (t : StoreTerm) → is_near ob.conditions t (a_store t) ≡ true
  unfolding is_near
  itself_near t = or_left (store_same t t) (list_any (store_same t) (exchanged ob.conditions t)) (store_itself t)

  exchanged_near : (t s : StoreTerm) → In t (exchanged ob.conditions s) → is_near ob.conditions t (a_store s) ≡ true
  unfolding is_near
  exchanged_near t s h = or_right (store_same t s) (list_any (store_same t) (exchanged ob.conditions s)) (in_any store_same store_is store_itself t (exchanged ob.conditions s) h)

  found_near : (t : StoreTerm) → In t near → list_any (is_near ob.conditions t) ps ≡ true
  found_near t h =
      ⊎_elim
      (λ a. of_some (is_near ob.conditions t) ps (a_store t) (among_in t a) (itself_near t))
      (λ b. let f : Source (exchanged ob.conditions) (stores_among ps) t = source (exchanged ob.conditions) (stores_among ps) t b in of_some (is_near ob.conditions t) ps (a_store f.item) (among_in f.item f.there) (exchanged_near t f.item f.its))
      (in_either (stores_among ps) (flat_map (exchanged ob.conditions) (stores_among ps)) t h)

  found_store : (t : StoreTerm) → In t us → store_there ob e t ≡ true
  unfolding store_there
  found_store t (inl h) = or_left (store_same t left_store) (store_same t right_store || list_any (is_near ob.conditions t) ps) (subst (λ (u : StoreTerm). store_same u left_store ≡ true) h (store_itself left_store))
  found_store t (inr (inl h)) = or_right (store_same t left_store) (store_same t right_store || list_any (is_near ob.conditions t) ps) (or_left (store_same t right_store) (list_any (is_near ob.conditions t) ps) (subst (λ (u : StoreTerm). store_same u right_store ≡ true) h (store_itself right_store)))
  found_store t (inr (inr h)) = or_right (store_same t left_store) (store_same t right_store || list_any (is_near ob.conditions t) ps) (or_right (store_same t right_store) (list_any (is_near ob.conditions t) ps) (found_near t h))

  -- ---- values
  read_in : (s : StoreTerm) (q : Part) (v : ValueTerm) → In s us → In q ps → In v (reading s q) → In v readings
  read_in s q v h k m = in_flat (λ s. flat_map (reading s) ps) us s v h (in_flat (reading s) ps q v k m)

  read_found : ((s : StoreTerm) → has_store e s ≡ true → In s us) → (v : ValueTerm) → is_read ob e v ≡ true → In v readings
  unfolding is_read
  read_found f (get x is s) h = let p = and_parts (has_store e s) (occurs ob e (a_place (place x is))) h in read_in s (a_place (place x is)) (get x is s) (f s p.0) (occurring (a_place (place x is)) p.1) (inl refl)
  read_found f (ev k s) h = let p = and_parts (has_store e s) (occurs ob e (an_expr k)) h in read_in s (an_expr k) (ev k s) (f s p.0) (occurring (an_expr k) p.1) (inl refl)
  read_found f _ h = absurd (true≢false (sym h))

  value_found : ((s : StoreTerm) → has_store e s ≡ true → In s us) → (v : ValueTerm) → value_there ob e v ≡ true → In v vs
  unfolding value_there
  value_found f v h =
      ⊎_elim
      (λ g. inr (inr (in_right (values_among ps) readings v (read_found f v g))))
      (λ g. ⊎_elim
      (λ k. inl (sym (value_is v (num (pos 0)) k)))
      (λ k. inr (⊎_elim (λ m. inl (sym (value_is v (num (pos 1)) m))) (λ m. inr (in_left (values_among ps) readings v (in_flat value_in ps (a_value v) v (occurring (a_value v) m) (inl refl)))) (or_cases (value_same v (num (pos 1))) (occurs ob e (a_value v)) k)))
      (or_cases (value_same v (num (pos 0))) (value_same v (num (pos 1)) || occurs ob e (a_value v)) g))
      (or_cases (is_read ob e v) (value_same v (num (pos 0)) || (value_same v (num (pos 1)) || occurs ob e (a_value v))) h)

  reading_there : (s : StoreTerm) → has_store e s ≡ true → (q : Part) (v : ValueTerm) → In q ps → In v (reading s q) → is_read ob e v ≡ true
  unfolding is_read
  reading_there s h (a_place p) v k (inl m) = subst (λ (w : ValueTerm). is_read ob e w ≡ true) m (and_from (has_store e s) (occurs ob e (a_place p)) h (place_occurs p k))
  reading_there s h (a_place p) v k (inr m) = elim m [ ]
  reading_there s h (an_expr j) v k (inl m) = subst (λ (w : ValueTerm). is_read ob e w ≡ true) m (and_from (has_store e s) (occurs ob e (an_expr j)) h (expr_occurs j k))
  reading_there s h (an_expr j) v k (inr m) = elim m [ ]
  reading_there s h (a_store t) v k m = elim m [ ]
  reading_there s h (a_value w) v k m = elim m [ ]
  reading_there s h (a_test j) v k m = elim m [ ]

  pub record Reads (v : ValueTerm) : Type 0 where
    pub store : StoreTerm
    pub part : Part
    pub store_in_us : In store us
    pub part_in : In part ps
    pub its : In v (reading store part)

  reads_of : (v : ValueTerm) → In v readings → Reads v
  reads_of v h =
      let f : Source (λ s. flat_map (reading s) ps) us v = source (λ s. flat_map (reading s) ps) us v h in
      let g : Source (reading f.item) ps v = source (reading f.item) ps v f.its in
      record { store = f.item; part = g.item; store_in_us = f.there; part_in = g.there; its = g.its }

  found_value : ((s : StoreTerm) → In s us → has_store e s ≡ true) → (v : ValueTerm) → In v vs → value_there ob e v ≡ true
  unfolding value_there
  found_value f v (inl h) = or_right (is_read ob e v) _ (or_left (value_same v (num (pos 0))) _ (subst (λ (w : ValueTerm). value_same w (num (pos 0)) ≡ true) h (value_itself (num (pos 0)))))
  found_value f v (inr (inl h)) = or_right (is_read ob e v) _ (or_right (value_same v (num (pos 0))) _ (or_left (value_same v (num (pos 1))) _ (subst (λ (w : ValueTerm). value_same w (num (pos 1)) ≡ true) h (value_itself (num (pos 1))))))
  found_value f v (inr (inr h)) =
      ⊎_elim
      (λ a. or_right (is_read ob e v) _ (or_right (value_same v (num (pos 0))) _ (or_right (value_same v (num (pos 1))) (occurs ob e (a_value v)) (value_occurs v (values_in v a)))))
      (λ b. let r : Reads v = reads_of v b in or_left (is_read ob e v) _ (reading_there r.store (f r.store r.store_in_us) r.part v r.part_in r.its))
      (in_either (values_among ps) readings v h)

  -- ---- tests
  test_found : ((s : StoreTerm) → has_store e s ≡ true → In s us) → (q : ℕ) (s : StoreTerm) → test_there ob e q s ≡ true → In (q, s) ts
  unfolding test_there
  test_found f q s h =
      let p = and_parts (has_store e s) (occurs ob e (a_test q)) h in
      in_flat (λ s. flat_map (test_of s) ps) us s (q, s) (f s p.0) (in_flat (test_of s) ps (a_test q) (q, s) (occurring (a_test q) p.1) (inl refl))

  pub record Tests (t : ℕ × StoreTerm) : Type 0 where
    pub store : StoreTerm
    pub test : ℕ
    pub store_in_us : In store us
    pub part_in : In (a_test test) ps
    pub is : (test, store) ≡ t

  test_at : (s : StoreTerm) (q : Part) (t : ℕ × StoreTerm) → In s us → In q ps → In t (test_of s q) → Tests t
  test_at s (a_test k) t h g (inl m) = record { store = s; test = k; store_in_us = h; part_in = g; is = m }
  test_at s (a_test k) t h g (inr m) = elim m [ ]
  test_at s (a_store u) t h g m = elim m [ ]
  test_at s (a_value v) t h g m = elim m [ ]
  test_at s (a_place p) t h g m = elim m [ ]
  test_at s (an_expr k) t h g m = elim m [ ]

  tests_of : (t : ℕ × StoreTerm) → In t ts → Tests t
  tests_of t h =
      let f : Source (λ s. flat_map (test_of s) ps) us t = source (λ s. flat_map (test_of s) ps) us t h in
      let g : Source (test_of f.item) ps t = source (test_of f.item) ps t f.its in
      test_at f.item g.item t f.there g.there g.its

  found_test : ((s : StoreTerm) → In s us → has_store e s ≡ true) → (t : ℕ × StoreTerm) → In t ts → test_there ob e t.0 t.1 ≡ true
  unfolding test_there
  found_test f t h =
      let r : Tests t = tests_of t h in
      subst (λ (u : ℕ × StoreTerm). (has_store e u.1 && occurs ob e (a_test u.0)) ≡ true) r.is (and_from (has_store e r.store) (occurs ob e (a_test r.test)) (f r.store r.store_in_us) (test_occurs r.test r.part_in))

  -- ---- what is covered
  store_covered : (s : StoreTerm) → is_covered ob.conditions e (a_store s) ≡ true → (has_store e s ≡ true) × (list_all (has_store e) (exchanged ob.conditions s) ≡ true)
  unfolding is_covered
  store_covered s h = and_parts (has_store e s) (list_all (has_store e) (exchanged ob.conditions s)) h

  value_covered : (v : ValueTerm) → is_covered ob.conditions e (a_value v) ≡ true → has_value e v ≡ true
  unfolding is_covered
  value_covered v h = h

  reading_covered : (s : StoreTerm) (q : Part) (v : ValueTerm) → is_covered ob.conditions e q ≡ true → In s (map store_of e.stores) → In v (reading s q) → has_value e v ≡ true
  unfolding is_covered
  reading_covered s (a_place p) v h k (inl m) = subst (λ (w : ValueTerm). has_value e w ≡ true) m (all_in store_of (λ t. has_value e (get p.name p.indices t)) e.stores h s k)
  reading_covered s (a_place p) v h k (inr m) = elim m [ ]
  reading_covered s (an_expr j) v h k (inl m) = subst (λ (w : ValueTerm). has_value e w ≡ true) m (all_in store_of (λ t. has_value e (ev j t)) e.stores h s k)
  reading_covered s (an_expr j) v h k (inr m) = elim m [ ]
  reading_covered s (a_store t) v h k m = elim m [ ]
  reading_covered s (a_value w) v h k m = elim m [ ]
  reading_covered s (a_test j) v h k m = elim m [ ]

  test_covered : (s : StoreTerm) (q : ℕ) → is_covered ob.conditions e (a_test q) ≡ true → In s (map store_of e.stores) → has_test e q s ≡ true
  unfolding is_covered
  test_covered s q h k = all_in store_of (λ t. has_test e q t) e.stores h s k

  pub record Covers : Type 0 where
    pub left : has_store e left_store ≡ true
    pub right : has_store e right_store ≡ true
    pub zero_one : (has_value e (num (pos 0)) ≡ true) × (has_value e (num (pos 1)) ≡ true)
    pub parts : (q : Part) → In q ps → is_covered ob.conditions e q ≡ true

  covers_is : covers ob e ≡ true → Covers
  unfolding covers
  covers_is h =
      let a = and_parts (has_store e left_store) _ h in
      let b = and_parts (has_store e right_store) _ a.1 in
      let c = and_parts (has_value e (num (pos 0))) _ b.1 in
      let d = and_parts (has_value e (num (pos 1))) (not (list_any (uncovered ob.conditions e) ps)) c.1 in
      record { left = a.0; right = b.0; zero_one = (c.0, d.0); parts = none_of (is_covered ob.conditions e) ps d.1 }

  is_covers : Covers → covers ob e ≡ true
  unfolding covers
  is_covers c = and_from (has_store e left_store) _ c.left (and_from (has_store e right_store) _ c.right (and_from (has_value e (num (pos 0))) _ c.zero_one.0 (and_from (has_value e (num (pos 1))) (not (list_any (uncovered ob.conditions e) ps)) c.zero_one.1 (of_none (is_covered ob.conditions e) ps c.parts))))

  store_has : Covers → (t : StoreTerm) → In t us → has_store e t ≡ true
  store_has c t (inl h) = subst (λ (u : StoreTerm). has_store e u ≡ true) h c.left
  store_has c t (inr (inl h)) = subst (λ (u : StoreTerm). has_store e u ≡ true) h c.right
  store_has c t (inr (inr h)) =
      ⊎_elim
      (λ a. (store_covered t (c.parts (a_store t) (among_in t a))).0)
      (λ b. let f : Source (exchanged ob.conditions) (stores_among ps) t = source (exchanged ob.conditions) (stores_among ps) t b in each_in (has_store e) (exchanged ob.conditions f.item) (store_covered f.item (c.parts (a_store f.item) (among_in f.item f.there))).1 t f.its)
      (in_either (stores_among ps) (flat_map (exchanged ob.conditions) (stores_among ps)) t h)

  value_has : Covers → (v : ValueTerm) → In v vs → has_value e v ≡ true
  value_has c v (inl h) = subst (λ (w : ValueTerm). has_value e w ≡ true) h c.zero_one.0
  value_has c v (inr (inl h)) = subst (λ (w : ValueTerm). has_value e w ≡ true) h c.zero_one.1
  value_has c v (inr (inr h)) =
      ⊎_elim
      (λ a. value_covered v (c.parts (a_value v) (values_in v a)))
      (λ b. let r : Reads v = reads_of v b in reading_covered r.store r.part v (c.parts r.part r.part_in) (store_in_marks e.stores r.store (store_has c r.store r.store_in_us)) r.its)
      (in_either (values_among ps) readings v h)

  test_has : Covers → (t : ℕ × StoreTerm) → In t ts → has_test e t.0 t.1 ≡ true
  test_has c t h =
      let r : Tests t = tests_of t h in
      subst (λ (u : ℕ × StoreTerm). has_test e u.0 u.1 ≡ true) r.is (test_covered r.store r.test (c.parts (a_test r.test) r.part_in) (store_in_marks e.stores r.store (store_has c r.store r.store_in_us)))

  -- ---- both ways
  pub record Matches : Type 0 where
    pub all : Covers
    pub stores : (t : StoreTerm) → In t (map store_of e.stores) → store_there ob e t ≡ true
    pub values : (v : ValueTerm) → In v (map value_of e.values) → value_there ob e v ≡ true
    pub tests : (t : ℕ × StoreTerm) → In t (map marked_test e.tests) → test_there ob e t.0 t.1 ≡ true

  matches_is : marks_match ob e ≡ true → Matches
  unfolding marks_match stores_there values_there tests_there
  matches_is h =
      let a = and_parts (covers ob e) _ h in
      let b = and_parts (list_all (λ (m : StoreMark). store_there ob e m.store) e.stores) _ a.1 in
      let c = and_parts (list_all (λ (m : ValueMark). value_there ob e m.value) e.values) (list_all (λ (m : TestMark). test_there ob e m.test m.store) e.tests) b.1 in
      record {
        all = covers_is a.0;
        stores = all_in store_of (store_there ob e) e.stores b.0;
        values = all_in value_of (value_there ob e) e.values c.0;
        tests = all_in marked_test (λ t. test_there ob e t.0 t.1) e.tests c.1;
      }

  is_matches : Matches → marks_match ob e ≡ true
  unfolding marks_match stores_there values_there tests_there
  is_matches m =
      and_from (covers ob e) _ (is_covers m.all)
      (and_from (list_all (λ (n : StoreMark). store_there ob e n.store) e.stores) _ (in_all store_of (store_there ob e) e.stores m.stores)
      (and_from (list_all (λ (n : ValueMark). value_there ob e n.value) e.values) (list_all (λ (n : TestMark). test_there ob e n.test n.store) e.tests) (in_all value_of (value_there ob e) e.values m.values) (in_all marked_test (λ t. test_there ob e t.0 t.1) e.tests m.tests)))

  pub terms_of_match : marks_match ob e ≡ true → MarksItsTerms ob e
  unfolding universe_stores universe_values universe_tests
  terms_of_match h =
      let m : Matches = matches_is h in
      let known : (s : StoreTerm) → has_store e s ≡ true → In s us = λ s k. store_found s (m.stores s (store_in_marks e.stores s k)) in
      record {
        stores = record { each = λ t. ((λ c. from_in us t (store_found t (m.stores t (in_from (map store_of e.stores) t c)))), (λ c. from_in (map store_of e.stores) t (store_in_marks e.stores t (store_has m.all t (in_from us t c))))) };
        values = record { each = λ v. ((λ c. from_in vs v (value_found known v (m.values v (in_from (map value_of e.values) v c)))), (λ c. from_in (map value_of e.values) v (value_in_marks e.values v (value_has m.all v (in_from vs v c))))) };
        tests = record { each = λ t. ((λ c. from_in ts t (test_found known t.0 t.1 (m.tests t (in_from (map marked_test e.tests) t c)))), (λ c. from_in (map marked_test e.tests) t (test_in_marks e.tests t.0 t.1 (test_has m.all t (in_from ts t c))))) };
      }

  -- what the universe has has marks
  part_covered : ((s : StoreTerm) → In s us → has_store e s ≡ true) → ((s : StoreTerm) → In s (map store_of e.stores) → In s us) → ((v : ValueTerm) → In v vs → has_value e v ≡ true) → ((t : ℕ × StoreTerm) → In t ts → has_test e t.0 t.1 ≡ true) → (q : Part) → In q ps → is_covered ob.conditions e q ≡ true
  unfolding is_covered
  part_covered f g v t (a_store s) h =
      and_from (has_store e s) (list_all (has_store e) (exchanged ob.conditions s))
      (f s (inr (inr (in_left (stores_among ps) (flat_map (exchanged ob.conditions) (stores_among ps)) s (in_among s h)))))
      (in_each (has_store e) (exchanged ob.conditions s) (λ u k. f u (inr (inr (in_right (stores_among ps) (flat_map (exchanged ob.conditions) (stores_among ps)) u (in_flat (exchanged ob.conditions) (stores_among ps) s u (in_among s h) k))))))
  part_covered f g v t (a_value w) h = v w (inr (inr (in_left (values_among ps) readings w (in_flat value_in ps (a_value w) w h (inl refl)))))
  part_covered f g v t (a_place p) h = in_all store_of (λ s. has_value e (get p.name p.indices s)) e.stores (λ s k. v (get p.name p.indices s) (inr (inr (in_right (values_among ps) readings (get p.name p.indices s) (read_in s (a_place p) (get p.name p.indices s) (g s k) h (inl refl))))))
  part_covered f g v t (an_expr j) h = in_all store_of (λ s. has_value e (ev j s)) e.stores (λ s k. v (ev j s) (inr (inr (in_right (values_among ps) readings (ev j s) (read_in s (an_expr j) (ev j s) (g s k) h (inl refl))))))
  part_covered f g v t (a_test j) h = in_all store_of (λ s. has_test e j s) e.stores (λ s k. t (j, s) (in_flat (λ s. flat_map (test_of s) ps) us s (j, s) (g s k) (in_flat (test_of s) ps (a_test j) (j, s) h (inl refl))))

  pub match_of_terms : MarksItsTerms ob e → marks_match ob e ≡ true
  unfolding universe_stores universe_values universe_tests
  match_of_terms m =
      let f : (s : StoreTerm) → In s us → has_store e s ≡ true = λ s k. marks_have_store e.stores s (in_from (map store_of e.stores) s ((m.stores.each s).1 (from_in us s k))) in
      let g : (s : StoreTerm) → In s (map store_of e.stores) → In s us = λ s k. in_from us s ((m.stores.each s).0 (from_in (map store_of e.stores) s k)) in
      let v : (w : ValueTerm) → In w vs → has_value e w ≡ true = λ w k. marks_have_value e.values w (in_from (map value_of e.values) w ((m.values.each w).1 (from_in vs w k))) in
      let t : (u : ℕ × StoreTerm) → In u ts → has_test e u.0 u.1 ≡ true = λ u k. marks_have_test e.tests u.0 u.1 (in_from (map marked_test e.tests) u ((m.tests.each u).1 (from_in ts u k))) in
      is_matches (record {
        all = record { left = f left_store (inl refl); right = f right_store (inr (inl refl)); zero_one = (v (num (pos 0)) (inl refl), v (num (pos 1)) (inr (inl refl))); parts = part_covered f g v t };
        stores = λ s k. found_store s (g s k);
        values = λ w k. found_value f w (in_from vs w ((m.values.each w).0 (from_in (map value_of e.values) w k)));
        tests = λ u k. found_test f u (in_from ts u ((m.tests.each u).0 (from_in (map marked_test e.tests) u k)));
      })
