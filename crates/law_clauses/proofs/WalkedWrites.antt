-- A walk over the writes of two stores uses all literals of a list exactly where these deny, one for one, that the stores are read alike
-- at the places written, each place once.
use Rattle.std.specs.Prelude.{◌≡◌, ℕ, zero, suc, ◌<◌, ◌≤◌, ◌+◌, ◌-◌, Bool, true, false, cond, ◌==◌, ◌&&◌, ◌||◌, List, [], ◌∷◌, ◌++◌, length, get_or, map, take, drop, Option, Some, None, slice_get, refl}
use Rattle.std.specs.List.{list_any}
use Rattle.std.specs.Option.{option_map}
use Rattle.std.specs.Ordering.{nat_cmp, ordering_then, is_eq}
use Rattle.std.specs.declared.cmp.Ordering.{Ordering}
use Rattle.std.specs.declared.cmp.Ordering.TheVariants.{Less, Equal, Greater}
use Rattle.std.proofs.Common.{sym, ap, ◌∙◌, arith, append_assoc, append-nil, true≢false}
use Rattle.std.proofs.lemmas.Bool.{eq-eqb}
use Rattle.std.proofs.lemmas.List.{drop_all, take-map, length-map}
use Rattle.std.proofs.lemmas.Option.{slice_get-map, slice_get-get_or, slice_get_past}
use Rattle.rule_terms.specs.Term.{StoreTerm, ValueTerm, num, get, ev, add, sub, mul, ValueTerms, Place}
use Rattle.rule_terms.specs.Order.{store_cmp, value_cmp, terms_cmp, value_same, place_same}
use Rattle.rule_terms.specs.Added.{added_all}
use Rattle.rule_terms.specs.declared.obligation.Literal.{Literal}
use Rattle.law_clauses.specs.Shapes.{is_get}
use Rattle.law_clauses.specs.Signed.{Signed, signed_of, all_signed, signed_same, all_same}
use Rattle.law_clauses.specs.WriteLaws.{places_written, read_unlike, written_alike, law_5}
use Rattle.law_clauses.specs.WrittenAlike.{reads_at, used_for, used_at, used_along, all_are_used}
use Rattle.term_meaning.specs.Writes.{written_in}
use Rattle.law_clauses.proofs.Pairs.{conclusion_is, conditions_are}
use Rattle.law_clauses.proofs.Same.{same_truth, number_is, signed_is}

-- ---- the items that a list adds to those that are there
abbrev new_among : {X : Type 0} → (X → X → Bool) → List X → List X → List X
new_among same seen [] = []
new_among same seen (p ∷ ps) = cond (list_any (same p) seen) (new_among same seen ps) (p ∷ new_among same (seen ++ p ∷ []) ps)

added_are_new : {X : Type 0} (same : X → X → Bool) (seen ps : List X) → added_all same seen ps ≡ seen ++ new_among same seen ps
unfolding added_all
added_are_new same seen [] = sym (append-nil seen)
added_are_new same seen (p ∷ ps) = by_test (list_any (same p) seen) (added_are_new same seen ps) (added_are_new same (seen ++ p ∷ []) ps)
  where
    by_test : (b : Bool) → added_all same seen ps ≡ seen ++ new_among same seen ps → added_all same (seen ++ p ∷ []) ps ≡ (seen ++ p ∷ []) ++ new_among same (seen ++ p ∷ []) ps
        → added_all same (cond b seen (seen ++ p ∷ [])) ps ≡ seen ++ cond b (new_among same seen ps) (p ∷ new_among same (seen ++ p ∷ []) ps)
    by_test true old new = old
    by_test false old new = new ∙ append_assoc seen (p ∷ []) (new_among same (seen ++ p ∷ []) ps)

-- ---- the literals of a list by number
next_is : (xs : List Signed) (n : ℕ) (x : Signed) → slice_get xs n ≡ Some x → (drop n xs ≡ x ∷ drop (suc n) xs) × (take (suc n) xs ≡ take n xs ++ x ∷ []) × (suc n ≤ length xs)
next_is [] n x e = cc
next_is (y ∷ ys) zero x e = let same : y ≡ x = cc in (ap (λ z. z ∷ ys) same, ap (λ z. z ∷ []) same, omega arith)
next_is (y ∷ ys) (suc n) x e =
    let p = next_is ys n x e in
    let h : suc n ≤ length ys = p.2 in
    (p.0, ap (λ zs. y ∷ zs) p.1, omega arith)

none_is : (xs : List Signed) (n : ℕ) → slice_get xs n ≡ None → drop n xs ≡ []
none_is [] zero e = refl
none_is [] (suc n) e = refl
none_is (y ∷ ys) zero e = cc
none_is (y ∷ ys) (suc n) e = none_is ys n e

nothing_left : (xs : List Signed) (n : ℕ) → n ≤ length xs → all_same (drop n xs) [] ≡ true → n ≡ length xs
unfolding all_same
nothing_left [] n h e = omega arith
nothing_left (x ∷ xs) zero h e = absurd (true≢false (sym e))
nothing_left (x ∷ xs) (suc n) h e = let less : n ≤ length xs = omega arith in ap suc (nothing_left xs n less e)

used_up : (xs : List Signed) (n : ℕ) → n ≤ length xs → (n == length xs) ≡ all_same (drop n xs) []
unfolding all_same
used_up xs n h =
    same_truth (n == length xs) (all_same (drop n xs) []) (λ e. let f : n ≡ length xs = number_is n (length xs) e in let g : length xs ≤ n = omega arith in rw (drop_all n xs g) refl) (
    λ e. eq-eqb n (length xs) (nothing_left xs n h e)
    )

-- ---- the walk
any_reads : (a c : StoreTerm) (q : Place) (seen : List Place) → list_any (reads_at q) (map (read_unlike a c) seen) ≡ list_any (place_same q) seen
unfolding reads_at
any_reads a c q [] = refl
any_reads a c q (p ∷ ps) = ap (λ b. place_same q p || b) (any_reads a c q ps)

map_append : (a c : StoreTerm) (ps qs : List Place) → map (read_unlike a c) (ps ++ qs) ≡ map (read_unlike a c) ps ++ map (read_unlike a c) qs
map_append a c [] qs = refl
map_append a c (p ∷ ps) qs = ap (λ xs. read_unlike a c p ∷ xs) (map_append a c ps qs)

module _ (a c : StoreTerm) (xs : List Signed) where
  -- what is used behind further writes, after literals that speak of the places seen
  abbrev Uses : List Place → List Place → Type 0
  Uses seen ps =
      (n : ℕ) → n ≤ length xs → take n xs ≡ map (read_unlike a c) seen
      → all_are_used xs (used_along a c xs (Some n) ps) ≡ all_same (drop n xs) (map (read_unlike a c) (new_among place_same seen ps))

  by_same : (seen ps : List Place) (n : ℕ) (p : Place) (x : Signed) (b : Bool) → signed_same x (read_unlike a c p) ≡ b → slice_get xs n ≡ Some x → take n xs ≡ map (read_unlike a c) seen → Uses (seen ++ p ∷ []) ps
      → all_are_used xs (used_along a c xs (cond b (Some (suc n)) None) ps) ≡ (b && all_same (drop (suc n) xs) (map (read_unlike a c) (new_among place_same (seen ++ p ∷ []) ps)))
  unfolding used_along all_are_used
  by_same seen ps n p x false s f e new = refl
  by_same seen ps n p x true s f e new =
      let next = next_is xs n x f in
      let used = next.1 ∙ (λ j. e j ++ signed_is x (read_unlike a c p) s j ∷ []) ∙ sym (map_append a c seen (p ∷ [])) in
      new (suc n) next.2 used

  by_next : (seen ps : List Place) (n : ℕ) (p : Place) (o : Option Signed) → slice_get xs n ≡ o → take n xs ≡ map (read_unlike a c) seen → Uses (seen ++ p ∷ []) ps
      → all_are_used xs (used_along a c xs (used_for a c n p o) ps) ≡ all_same (drop n xs) (read_unlike a c p ∷ map (read_unlike a c) (new_among place_same (seen ++ p ∷ []) ps))
  unfolding used_along all_are_used all_same
  by_next seen ps n p None f e new = rw (none_is xs n f) refl
  by_next seen ps n p (Some x) f e new = rw (next_is xs n x f).0 (by_same seen ps n p x (signed_same x (read_unlike a c p)) refl f e new)

  by_met : (seen ps : List Place) (n : ℕ) (p : Place) (b : Bool) → n ≤ length xs → take n xs ≡ map (read_unlike a c) seen → Uses seen ps → Uses (seen ++ p ∷ []) ps
      → all_are_used xs (used_along a c xs (cond b (Some n) (used_for a c n p (slice_get xs n))) ps)
      ≡ all_same (drop n xs) (map (read_unlike a c) (cond b (new_among place_same seen ps) (p ∷ new_among place_same (seen ++ p ∷ []) ps)))
  by_met seen ps n p true h e old new = old n h e
  by_met seen ps n p false h e old new = by_next seen ps n p (slice_get xs n) refl e new

  walk_uses : (ps seen : List Place) → Uses seen ps
  unfolding used_along used_at all_are_used
  walk_uses [] seen n h e = used_up xs n h
  walk_uses (p ∷ ps) seen n h e =
      let met = ap (list_any (reads_at p)) e ∙ any_reads a c p seen in
      ap (λ b. all_are_used xs (used_along a c xs (cond b (Some n) (used_for a c n p (slice_get xs n))) ps)) met
      ∙ by_met seen ps n p (list_any (place_same p) seen) h e (walk_uses ps seen) (walk_uses ps (seen ++ p ∷ []))

  -- behind the writes of one store and then those of another
  pub used_along_both : (o : Option ℕ) (ps qs : List Place) → used_along a c xs o (ps ++ qs) ≡ used_along a c xs (used_along a c xs o ps) qs
  unfolding used_along
  used_along_both None ps qs = refl
  used_along_both (Some n) [] qs = refl
  used_along_both (Some n) (p ∷ ps) qs = used_along_both (used_at a c xs n p) ps qs

  pub all_used_along : all_same xs (map (read_unlike a c) (places_written a c)) ≡ all_are_used xs (used_along a c xs (used_along a c xs (Some 0) (written_in a)) (written_in c))
  all_used_along =
      let ps = written_in a ++ written_in c in
      let none : 0 ≤ length xs = omega arith in
      ap (λ qs. all_same xs (map (read_unlike a c) qs)) (added_are_new place_same [] ps)
      ∙ sym (walk_uses ps [] 0 none refl)
      ∙ ap (all_are_used xs) (used_along_both (Some 0) (written_in a) (written_in c))

-- ---- a read by its shape
three_ties : (o p q : Ordering) → is_eq (ordering_then o (ordering_then p q)) ≡ (is_eq (ordering_then o p) && is_eq q)
three_ties Less p q = refl
three_ties Equal Less q = refl
three_ties Equal Equal q = refl
three_ties Equal Greater q = refl
three_ties Greater p q = refl

pub get_same : (w : ValueTerm) (x : ℕ) (is : ValueTerms) (s : StoreTerm) → value_same w (get x is s) ≡ is_get w x is s
unfolding value_cmp is_get
get_same (num z) x is s = refl
get_same (get y js t) x is s = three_ties (nat_cmp y x) (terms_cmp js is) (store_cmp t s)
get_same (ev k t) x is s = refl
get_same (add a b) x is s = refl
get_same (sub a b) x is s = refl
get_same (mul a b) x is s = refl

-- ---- lists of literals
pub used_at_met : (a c : StoreTerm) (xs : List Literal) (n : ℕ) (p : Place) → list_any (reads_at p) (all_signed (take n xs)) ≡ true → used_at a c (all_signed xs) n p ≡ Some n
unfolding used_at
used_at_met a c xs n p e = ap (λ b. cond b (Some n) (used_for a c n p (slice_get (all_signed xs) n))) (ap (list_any (reads_at p)) (take-map signed_of n xs) ∙ e)

used_at_new : (a c : StoreTerm) (xs : List Literal) (n : ℕ) (p : Place) → list_any (reads_at p) (all_signed (take n xs)) ≡ false → used_at a c (all_signed xs) n p ≡ used_for a c n p (option_map signed_of (slice_get xs n))
unfolding used_at
used_at_new a c xs n p e =
    ap (λ b. cond b (Some n) (used_for a c n p (slice_get (all_signed xs) n))) (ap (list_any (reads_at p)) (take-map signed_of n xs) ∙ e)
    ∙ ap (used_for a c n p) (slice_get-map signed_of xs n)

used_at_next : (a c : StoreTerm) (xs : List Literal) (n : ℕ) (p : Place) (x : Literal) (b : Bool) → list_any (reads_at p) (all_signed (take n xs)) ≡ false → slice_get xs n ≡ Some x
    → signed_same (signed_of x) (read_unlike a c p) ≡ b → used_at a c (all_signed xs) n p ≡ cond b (Some (n + 1)) None
used_at_next a c xs n p x b e f g =
    let more : suc n ≡ n + 1 = omega arith in
    used_at_new a c xs n p e ∙ ap (λ o. used_for a c n p (option_map signed_of o)) f ∙ (λ j. cond (g j) (Some (more j)) None)

pub used_at_one_more : (a c : StoreTerm) (xs : List Literal) (n : ℕ) (p : Place) (d : Literal) → list_any (reads_at p) (all_signed (take n xs)) ≡ false → n < length xs
    → signed_same (signed_of (get_or xs n d)) (read_unlike a c p) ≡ true → used_at a c (all_signed xs) n p ≡ Some (n + 1)
used_at_one_more a c xs n p d e h f = used_at_next a c xs n p (get_or xs n d) true e (slice_get-get_or xs n d h) f

pub used_at_other : (a c : StoreTerm) (xs : List Literal) (n : ℕ) (p : Place) (d : Literal) → list_any (reads_at p) (all_signed (take n xs)) ≡ false → n < length xs
    → signed_same (signed_of (get_or xs n d)) (read_unlike a c p) ≡ false → used_at a c (all_signed xs) n p ≡ None
used_at_other a c xs n p d e h f = used_at_next a c xs n p (get_or xs n d) false e (slice_get-get_or xs n d h) f

pub used_at_end : (a c : StoreTerm) (xs : List Literal) (n : ℕ) (p : Place) → list_any (reads_at p) (all_signed (take n xs)) ≡ false → length xs ≤ n → used_at a c (all_signed xs) n p ≡ None
used_at_end a c xs n p e h = used_at_new a c xs n p e ∙ ap (λ o. used_for a c n p (option_map signed_of o)) (slice_get_past xs n h)

pub length_signed : (xs : List Literal) → length (all_signed xs) ≡ length xs
length_signed xs = length-map xs signed_of

pub some_used : (a c : StoreTerm) (xs : List Literal) (n : ℕ) → Some n ≡ used_along a c (all_signed xs) (Some 0) (written_in a)
    → all_same (all_signed xs) (map (read_unlike a c) (places_written a c)) ≡ all_are_used (all_signed xs) (used_along a c (all_signed xs) (Some n) (written_in c))
some_used a c xs n e = all_used_along a c (all_signed xs) ∙ ap (λ o. all_are_used (all_signed xs) (used_along a c (all_signed xs) o (written_in c))) (sym e)

pub none_used : (a c : StoreTerm) (xs : List Literal) → None ≡ used_along a c (all_signed xs) (Some 0) (written_in a) → all_same (all_signed xs) (map (read_unlike a c) (places_written a c)) ≡ false
unfolding used_along all_are_used
none_used a c xs e = all_used_along a c (all_signed xs) ∙ ap (λ o. all_are_used (all_signed xs) (used_along a c (all_signed xs) o (written_in c))) (sym e)

pub law_5_parts : (xs : List Literal) (d : Literal) → 0 < length xs → law_5 (all_signed xs) ≡ written_alike (Some (signed_of (get_or xs (length xs - 1) d))) (all_signed (take (length xs - 1) xs))
unfolding law_5
law_5_parts xs d h =
    let e : suc (length xs - 1) ≡ length xs = omega arith in
    λ j. written_alike (conclusion_is xs d (length xs - 1) e j) (conditions_are xs (length xs - 1) e j)

pub law_5_none : (xs : List Literal) → length xs ≡ 0 → law_5 (all_signed xs) ≡ false
unfolding law_5 written_alike
law_5_none [] e = refl
law_5_none (x ∷ xs) e = absurd (omega arith)
