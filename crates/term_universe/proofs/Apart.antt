-- Items that are all different, added to a list: each is added that the list did not hold at first, and none of
-- them has to be compared with another.
use Rattle.std.specs.Prelude.{◌≡◌, ◌≢◌, suc, Bool, true, false, cond, ◌||◌, List, [], ◌∷◌, ◌++◌, Option, Some, None, AllPairs, refl}
use Rattle.std.proofs.Common.{sym, ◌∙◌, ap, subst, arith, append_assoc, inl, inr}
use Rattle.std.specs.List.{list_any, flat_map}
use Rattle.std.proofs.lemmas.List.{append-nil}
use Rattle.std.proofs.lemmas.Bool.{or_from}
use Rattle.std.proofs.lemmas.Option.{same_Some}
use Rattle.rule_terms.specs.Term.{StoreTerm, ValueTerm, get, ev}
use Rattle.rule_terms.specs.Parts.{Part, a_place, an_expr}
use Rattle.rule_terms.specs.Order.{value_same}
use Rattle.rule_terms.specs.Added.{added_all}
use Rattle.term_universe.specs.Universe.{reading}
use Rattle.term_universe.specs.NewReadings.{not_in, new_readings}
use Rattle.term_universe.proofs.Different.{by_bool}
use Rattle.term_universe.proofs.Universes.{value_is, value_self}
use Rattle.rule_terms.proofs.Members.{In, from_in, in_either}
use Rattle.term_universe.proofs.Listings.{any_in, Source, source, added_append}

module _ {X : Type 0} where
  -- no item stands twice
  abbrev pub Apart : List X → Type 0
  Apart [] = Unit {0}
  Apart (x ∷ xs) = (In x xs → ⊥) × Apart xs

  later : (x : X) (xs : List X) → AllPairs (λ a b. a ≢ b) (x ∷ xs) → AllPairs (λ a b. a ≢ b) xs
  later x xs h i j d lt within = h (suc i) (suc j) d (omega (arith, lt)) (omega (arith, within))

  pub apart_from : (xs : List X) → AllPairs (λ a b. a ≢ b) xs → Apart xs
  apart_from [] h = tt
  apart_from (x ∷ xs) h = (
    (λ k. let c = from_in xs x k in h 0 (suc c.0) x (omega arith) (omega (arith, c.1)) (sym c.2)),
    apart_from xs (later x xs h),
  )

  pub apart_append : (xs ys : List X) → Apart xs → Apart ys → ((z : X) → In z xs → In z ys → ⊥) → Apart (xs ++ ys)
  apart_append [] ys a b h = b
  apart_append (x ∷ xs) ys a b h = (
    (λ k. elim (in_either xs ys x k) [ inl p ↦ a.0 p | inr q ↦ h x (inl refl) q ]),
    apart_append xs ys a.1 b (λ z p q. h z (inr p) q),
  )

module _ {X Y : Type 0} where
  -- lists that share nothing, one for each of items that are all different
  pub apart_flat : (f : X → List Y) (xs : List X) → Apart xs → ((x : X) → Apart (f x)) → ((x y : X) (z : Y) → In z (f x) → In z (f y) → x ≡ y) → Apart (flat_map f xs)
  apart_flat f [] a b h = tt
  apart_flat f (x ∷ xs) a b h = apart_append (f x) (flat_map f xs) (b x) (apart_flat f xs a.1 b h)
      (λ z p q. let s : Source f xs z = source f xs z q in a.0 (subst (λ y. In y xs) (sym (h x s.item z p s.its)) s.there))

module _ {X : Type 0} (same : X → X → Bool) (equal : (x y : X) → same x y ≡ true → x ≡ y) (itself : (x : X) → same x x ≡ true) where
  any_append : (x : X) (xs ys : List X) → list_any (same x) (xs ++ ys) ≡ (list_any (same x) xs || list_any (same x) ys)
  any_append x [] ys = refl
  any_append x (z ∷ zs) ys = by_bool (same x z)
      (λ e. ap (λ b. b || list_any (same x) (zs ++ ys)) e ∙ sym (ap (λ b. (b || list_any (same x) zs) || list_any (same x) ys) e))
      (λ e. ap (λ b. b || list_any (same x) (zs ++ ys)) e ∙ any_append x zs ys ∙ sym (ap (λ b. (b || list_any (same x) zs) || list_any (same x) ys) e))

  not_there : (x : X) (xs : List X) → (In x xs → ⊥) → list_any (same x) xs ≡ false
  not_there x xs h = by_bool (list_any (same x) xs) (λ e. absurd (h (any_in same equal itself x xs e))) (λ e. e)

  -- those that were added so far stand behind the list, and none that is still to be added is among them
  added_behind : (base got xs : List X) → Apart xs → ((x : X) → In x xs → In x got → ⊥) → added_all same (base ++ got) xs ≡ base ++ (got ++ not_in same base xs)
  unfolding added_all not_in
  added_behind base got [] a h = ap (λ ys. base ++ ys) (sym (append-nil got))
  added_behind base got (x ∷ xs) a h =
      let all : list_any (same x) (base ++ got) ≡ (list_any (same x) base || list_any (same x) got) = any_append x base got in
      let new : list_any (same x) got ≡ false = not_there x got (λ k. h x (inl refl) k) in
      by_bool (list_any (same x) base)
      (λ e.
      let there : list_any (same x) (base ++ got) ≡ true = all ∙ ap (λ b. b || list_any (same x) got) e in
      ap (λ b. added_all same (cond b (base ++ got) ((base ++ got) ++ x ∷ [])) xs) there
      ∙ added_behind base got xs a.1 (λ y p q. h y (inr p) q)
      ∙ sym (ap (λ b. base ++ (got ++ cond b (not_in same base xs) (x ∷ not_in same base xs))) e))
      (λ e.
      let there : list_any (same x) (base ++ got) ≡ false = all ∙ or_from (list_any (same x) base) (list_any (same x) got) e new in
      ap (λ b. added_all same (cond b (base ++ got) ((base ++ got) ++ x ∷ [])) xs) there
      ∙ ap (λ ys. added_all same ys xs) (append_assoc base got (x ∷ []))
      ∙ added_behind base (got ++ x ∷ []) xs a.1 (λ y p q. elim (in_either got (x ∷ []) y q) [
        | inl r ↦ h y (inr p) r
        | inr r ↦ a.0 (subst (λ z. In z xs) (sym (only r)) p)
      ])
      ∙ ap (λ ys. base ++ ys) (append_assoc got (x ∷ []) (not_in same base xs))
      ∙ sym (ap (λ b. base ++ (got ++ cond b (not_in same base xs) (x ∷ not_in same base xs))) e))
    where
      only : {y x : X} → In y (x ∷ []) → x ≡ y
      only (inl e) = e
      only (inr h) = elim h [ ]

  pub added_apart : (base xs : List X) → Apart xs → added_all same base xs ≡ base ++ not_in same base xs
  added_apart base xs a = ap (λ ys. added_all same ys xs) (sym (append-nil base)) ∙ added_behind base [] xs a (λ x p q. elim q [ ])

  not_in_append : (base xs ys : List X) → not_in same base (xs ++ ys) ≡ not_in same base xs ++ not_in same base ys
  unfolding not_in
  not_in_append base [] ys = refl
  not_in_append base (x ∷ xs) ys = by_bool (list_any (same x) base)
      (λ e. ap (λ b. cond b (not_in same base (xs ++ ys)) (x ∷ not_in same base (xs ++ ys))) e ∙ not_in_append base xs ys
      ∙ sym (ap (λ b. cond b (not_in same base xs) (x ∷ not_in same base xs) ++ not_in same base ys) e))
      (λ e. ap (λ b. cond b (not_in same base (xs ++ ys)) (x ∷ not_in same base (xs ++ ys))) e ∙ ap (λ zs. x ∷ zs) (not_in_append base xs ys)
      ∙ sym (ap (λ b. cond b (not_in same base xs) (x ∷ not_in same base xs) ++ not_in same base ys) e))

  pub not_in_flat : {Z : Type 0} (base : List X) (f : Z → List X) (zs : List Z) → not_in same base (flat_map f zs) ≡ flat_map (λ z. not_in same base (f z)) zs
  unfolding not_in
  not_in_flat base f [] = refl
  not_in_flat base f (z ∷ zs) = not_in_append base (f z) (flat_map f zs) ∙ ap (λ ys. not_in same base (f z) ++ ys) (not_in_flat base f zs)

-- the store term and the part that a reading is of
abbrev read_of : ValueTerm → Option (StoreTerm × Part)
read_of (get name indices s) = Some (s, a_place (record { name = name; indices = indices }))
read_of (ev k s) = Some (s, an_expr k)
read_of _ = None

reads : (s : StoreTerm) (p : Part) (v : ValueTerm) → In v (reading s p) → read_of v ≡ Some (s, p)
reads s (a_place p) v (inl e) = ap read_of (sym e)
reads s (a_place p) v (inr h) = elim h [ ]
reads s (an_expr k) v (inl e) = ap read_of (sym e)
reads s (an_expr k) v (inr h) = elim h [ ]
reads s _ v h = absurd h

single : (s : StoreTerm) (p : Part) → Apart (reading s p)
single s (a_place p) = ((λ k. k), tt)
single s (an_expr k) = ((λ h. h), tt)
single s _ = tt

one_part : (s : StoreTerm) (p q : Part) (v : ValueTerm) → In v (reading s p) → In v (reading s q) → p ≡ q
one_part s p q v h k = ap (λ x. x.1) (same_Some (s, p) (s, q) (sym (reads s p v h) ∙ reads s q v k))

one_store : (ps : List Part) (s t : StoreTerm) (v : ValueTerm) → In v (flat_map (reading s) ps) → In v (flat_map (reading t) ps) → s ≡ t
one_store ps s t v h k =
    let a : Source (reading s) ps v = source (reading s) ps v h in
    let b : Source (reading t) ps v = source (reading t) ps v k in
    ap (λ x. x.0) (same_Some (s, a.item) (t, b.item) (sym (reads s a.item v a.its) ∙ reads t b.item v b.its))

readings_apart : (ss : List StoreTerm) (ps : List Part) → Apart ss → Apart ps → Apart (flat_map (λ s. flat_map (reading s) ps) ss)
readings_apart ss ps a b = apart_flat (λ s. flat_map (reading s) ps) ss a (λ s. apart_flat (reading s) ps b (single s) (one_part s)) (one_store ps)

-- what is read of different stores by different parts, added to a list
pub readings_added : (base : List ValueTerm) (ss : List StoreTerm) (ps : List Part) → AllPairs (λ a b. a ≢ b) ss → AllPairs (λ a b. a ≢ b) ps
    → added_all value_same base (flat_map (λ s. flat_map (reading s) ps) ss) ≡ base ++ flat_map (new_readings base ps) ss
readings_added base ss ps a b =
    added_apart value_same value_is value_self base _ (readings_apart ss ps (apart_from ss a) (apart_from ps b))
    ∙ ap (λ xs. base ++ xs) (not_in_flat value_same value_is value_self base (λ s. flat_map (reading s) ps) ss)
    ∙ (λ i. base ++ flat_map (λ s. not_in_flat value_same value_is value_self base (reading s) ps i) ss)

-- the same behind what is found
pub values_added : (start found base more vs : List ValueTerm) (ss : List StoreTerm) (ps : List Part) → AllPairs (λ a b. a ≢ b) ss → AllPairs (λ a b. a ≢ b) ps
    → base ≡ added_all value_same start found → more ≡ flat_map (new_readings base ps) ss → vs ≡ base ++ more
    → vs ≡ added_all value_same start (found ++ flat_map (λ s. flat_map (reading s) ps) ss)
values_added start found base more vs ss ps a b base_is more_is is =
    is ∙ ap (λ xs. base ++ xs) more_is ∙ sym (readings_added base ss ps a b)
    ∙ ap (λ xs. added_all value_same xs (flat_map (λ s. flat_map (reading s) ps) ss)) base_is
    ∙ sym (added_append value_same start found (flat_map (λ s. flat_map (reading s) ps) ss))
