-- How many different items of a kind a list has, from a list of its items, each once.
use Rattle.std.specs.Prelude.{◌≡◌, ◌↔◌, ℕ, suc, ◌+◌, ◌<◌, ◌≤◌, Bool, true, false, cond, ◌||◌, List, [], ◌∷◌, ◌++◌, length, map, refl}
use Rattle.std.specs.List.{list_any, filter}
use Rattle.std.proofs.Common.{sym, ◌∙◌, ap, subst, arith, get_or, drop, inl, inr, ◌^◌}
use Rattle.std.proofs.lemmas.Bool.{both_ways}
use Rattle.std.proofs.lemmas.List.{drop_more, drop_all, length-append}
use Rattle.rule_terms.specs.Counts.{saturated}
use Rattle.rule_terms.proofs.Members.{In, in_from, from_in, in_left, in_right, in_either}
use Rattle.term_universe.specs.Tallies.{different}
use Rattle.term_universe.specs.Universe.{ListsOnce}
use Rattle.term_universe.proofs.Apart.{Apart, apart_from}
use Rattle.term_universe.proofs.Different.{by_bool}
use Rattle.term_universe.proofs.Listings.{any_in, in_any}

module _ {X : Type 0} where
  taken : (q : X → Bool) (y : X) (ys : List X) (x : X) → q y ≡ true → (In x (filter q ys) → In x ys × (q x ≡ true)) → In x (y ∷ filter q ys) → In x (y ∷ ys) × (q x ≡ true)
  taken q y ys x e rest (inl i) = (inl i, subst (λ z. q z ≡ true) i e)
  taken q y ys x e rest (inr i) = (inr (rest i).0, (rest i).1)

  pub filtered : (q : X → Bool) (xs : List X) (x : X) → In x (filter q xs) → In x xs × (q x ≡ true)
  filtered q [] x h = elim h [ ]
  filtered q (y ∷ ys) x h = by_bool (q y)
      (λ e. taken q y ys x e (filtered q ys x) (subst (In x) (ap (λ b. cond b (y ∷ filter q ys) (filter q ys)) e) h))
      (λ e. let r = filtered q ys x (subst (In x) (ap (λ b. cond b (y ∷ filter q ys) (filter q ys)) e) h) in (inr r.0, r.1))

  pub to_filter : (q : X → Bool) (xs : List X) (x : X) → In x xs → q x ≡ true → In x (filter q xs)
  to_filter q [] x h k = elim h [ ]
  to_filter q (y ∷ ys) x (inl i) k = subst (In x) (sym (ap (λ b. cond b (y ∷ filter q ys) (filter q ys)) (ap q i ∙ k))) (inl i)
  to_filter q (y ∷ ys) x (inr i) k = by_bool (q y)
      (λ e. subst (In x) (sym (ap (λ b. cond b (y ∷ filter q ys) (filter q ys)) e)) (inr (to_filter q ys x i k)))
      (λ e. subst (In x) (sym (ap (λ b. cond b (y ∷ filter q ys) (filter q ys)) e)) (to_filter q ys x i k))

  pub apart_filter : (q : X → Bool) (xs : List X) → Apart xs → Apart (filter q xs)
  apart_filter q [] a = tt
  apart_filter q (y ∷ ys) a = by_bool (q y)
      (λ e. subst Apart (sym (ap (λ b. cond b (y ∷ filter q ys) (filter q ys)) e)) ((λ h. a.0 (filtered q ys y h).0), apart_filter q ys a.1))
      (λ e. subst Apart (sym (ap (λ b. cond b (y ∷ filter q ys) (filter q ys)) e)) (apart_filter q ys a.1))

  -- a list without one of its items
  pub record Without (xs : List X) (x : X) : Type 0 where
    pub rest : List X
    pub long : length xs ≡ suc (length rest)
    pub to : (y : X) → In y rest → In y xs
    pub back : (y : X) → In y xs → (y ≡ x → ⊥) → In y rest
    pub gone : In x rest → ⊥
    pub apart : Apart rest

  pub without : (xs : List X) (x : X) → Apart xs → In x xs → Without xs x
  without [] x a h = elim h [ ]
  without (y ∷ ys) x a (inl e) = record {
    rest = ys;
    long = refl;
    to = λ z i. inr i;
    back = λ z i n. elim i [ inl k ↦ absurd (n (sym k ∙ e)) | inr k ↦ k ];
    gone = λ i. a.0 (subst (λ z. In z ys) (sym e) i);
    apart = a.1;
  }
  without (y ∷ ys) x a (inr h) =
      let w : Without ys x = without ys x a.1 h in
      record {
        rest = y ∷ w.rest;
        long = ap suc w.long;
        to = λ z i. elim i [ inl k ↦ inl k | inr k ↦ inr (w.to z k) ];
        back = λ z i n. elim i [ inl k ↦ inl k | inr k ↦ inr (w.back z k n) ];
        gone = λ i. elim i [ inl k ↦ a.0 (subst (λ z. In z ys) (sym k) h) | inr k ↦ w.gone k ];
        apart = ((λ i. a.0 (w.to y i)), w.apart);
      }

module _ {X : Type 0} (same : X → X → Bool) (equal : (x y : X) → same x y ≡ true → x ≡ y) (itself : (x : X) → same x x ≡ true) where
  pub different_length : (xs found : List X) → Apart found → ((x : X) → In x found → In x xs) → ((x : X) → In x xs → In x found) → different same xs ≡ length found
  unfolding different
  different_length [] [] a to back = refl
  different_length [] (y ∷ ys) a to back = elim (to y (inl refl)) [ ]
  different_length (x ∷ xs) found a to back = by_bool (list_any (same x) xs)
      (λ e. ap (λ b. cond b (different same xs) (suc (different same xs))) e
      ∙ different_length xs found a (λ y h. elim (to y h) [ inl k ↦ subst (λ z. In z xs) k (any_in same equal itself x xs e) | inr k ↦ k ]) (λ y h. back y (inr h)))
      (λ e. let w : Without found x = without found x a (back x (inl refl)) in
      ap (λ b. cond b (different same xs) (suc (different same xs))) e
      ∙ ap suc (different_length xs w.rest w.apart
      (λ y h. elim (to y (w.to y h)) [ inl k ↦ absurd (w.gone (subst (λ z. In z w.rest) (sym k) h)) | inr k ↦ k ])
      (λ y h. w.back y (back y (inr h)) (λ k. both_ways (list_any (same x) xs) e (in_any same equal itself x xs (subst (λ z. In z xs) k h)))))
      ∙ sym w.long)

-- one more item
pub next_counted : {X : Type 0} (q : X → Bool) (xs : List X) (i : ℕ) (x : X) (all next : ℕ) → i < length xs → x ≡ get_or xs i x → next ≡ cond (q x) (saturated (all + 1)) all
    → saturated (next + length (filter q (drop (i + 1) xs))) ≡ saturated (all + length (filter q (drop i xs)))
next_counted q xs i x all next h is e =
    let more : filter q (drop i xs) ≡ cond (q x) (x ∷ filter q (drop (i + 1) xs)) (filter q (drop (i + 1) xs)) =
    ap (filter q) (drop_more xs i x h) ∙ ap (λ y. cond (q y) (y ∷ filter q (drop (i + 1) xs)) (filter q (drop (i + 1) xs))) (sym is) in
    by_bool (q x)
    (λ k. let n : next ≡ saturated (all + 1) = e ∙ ap (λ b. cond b (saturated (all + 1)) all) k in
    let m : length (filter q (drop i xs)) ≡ suc (length (filter q (drop (i + 1) xs))) = ap length (more ∙ ap (λ b. cond b (x ∷ filter q (drop (i + 1) xs)) (filter q (drop (i + 1) xs))) k) in
    omega (arith, n, m))
    (λ k. let n : next ≡ all = e ∙ ap (λ b. cond b (saturated (all + 1)) all) k in
    let m : length (filter q (drop i xs)) ≡ length (filter q (drop (i + 1) xs)) = ap length (more ∙ ap (λ b. cond b (x ∷ filter q (drop (i + 1) xs)) (filter q (drop (i + 1) xs))) k) in
    omega (arith, n, m))

pub all_counted : {X : Type 0} (q : X → Bool) (xs : List X) (i all total : ℕ) → length xs ≤ i → all < 2 ^ 64 → saturated (all + length (filter q (drop i xs))) ≡ total → all ≡ total
all_counted q xs i all total h small e =
    let none : length (filter q (drop i xs)) ≡ 0 = ap (λ l. length (filter q l)) (drop_all i xs h) in
    omega (arith, small, none, e)
