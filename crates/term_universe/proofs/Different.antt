-- How many different items pass a test, as one more item passes.
-- Lists are filtered by tests; an item counts where no equal one comes after it.
use Rattle.std.specs.Prelude.{◌≡◌, ℕ, ◌+◌, ◌≤◌, suc, Bool, true, false, cond, ◌||◌, List, [], ◌∷◌, length, refl}
use Rattle.std.proofs.Common.{sym, ◌∙◌, ap, subst, arith}
use Rattle.std.proofs.lemmas.Bool.{both_ways, false_from_ne_true}
use Rattle.std.specs.List.{list_any, filter}
use Rattle.term_universe.specs.Tallies.{different}

pub by_bool : {G : Type 0} (b : Bool) → (b ≡ true → G) → (b ≡ false → G) → G
by_bool true at_true at_false = at_true refl
by_bool false at_true at_false = at_false refl

module _ {X : Type 0} (same : X → X → Bool) (equal : (x y : X) → same x y ≡ true → x ≡ y) where
  keep : (q : X → Bool) (x : X) (xs : List X) → q x ≡ true → filter q (x ∷ xs) ≡ x ∷ filter q xs
  keep q x xs h = ap (λ b. cond b (x ∷ filter q xs) (filter q xs)) h

  leave : (q : X → Bool) (x : X) (xs : List X) → q x ≡ false → filter q (x ∷ xs) ≡ filter q xs
  leave q x xs h = ap (λ b. cond b (x ∷ filter q xs) (filter q xs)) h

  -- what passes a test is found among what passes it where it is found at all
  pub any-filter : (q : X → Bool) (x : X) → q x ≡ true → (xs : List X) → list_any (same x) (filter q xs) ≡ list_any (same x) xs
  any-filter q x h [] = refl
  any-filter q x h (y ∷ ys) = by_bool (q y)
      (λ k. ap (list_any (same x)) (keep q y ys k) ∙ ap (λ b. same x y || b) (any-filter q x h ys))
      (λ k. let differs : same x y ≡ false = false_from_ne_true (same x y) (λ e. both_ways (q y) k (subst (λ z. q z ≡ true) (equal x y e) h)) in
      ap (list_any (same x)) (leave q y ys k) ∙ any-filter q x h ys ∙ sym (ap (λ b. b || list_any (same x) ys) differs))

  -- on a list, r is passed by what passes q and by what equals m
  abbrev pub Adds : (X → Bool) → (X → Bool) → X → List X → Type 0
  Adds q r m [] = Unit {0}
  Adds q r m (x ∷ xs) = (r x ≡ (q x || same m x)) × Adds q r m xs

  number_same : (a s : Bool) (c d : ℕ) → s ≡ true → d ≡ c + cond a 1 0 → cond a d (suc d) ≡ c + cond (s || a) 1 0
  number_same true true c d h e = e
  number_same false true c d h e = omega (arith, e)
  number_same a false c d h e = cc

  number_kept : (a s b : Bool) (c d : ℕ) → s ≡ false → d ≡ c + cond b 1 0 → cond a d (suc d) ≡ cond a c (suc c) + cond (s || b) 1 0
  number_kept true false b c d h e = e
  number_kept false false true c d h e = omega (arith, e)
  number_kept false false false c d h e = omega (arith, e)
  number_kept a true b c d h e = cc

  number_left : (s b : Bool) (c d : ℕ) → s ≡ false → d ≡ c + cond b 1 0 → d ≡ c + cond (s || b) 1 0
  number_left false b c d h e = e
  number_left true b c d h e = cc

  different_keep : (q : X → Bool) (x : X) (xs : List X) → q x ≡ true → different same (filter q (x ∷ xs)) ≡ cond (list_any (same x) xs) (different same (filter q xs)) (suc (different same (filter q xs)))
  unfolding different
  different_keep q x xs h = ap (different same) (keep q x xs h) ∙ ap (λ b. cond b (different same (filter q xs)) (suc (different same (filter q xs)))) (any-filter q x h xs)

  or_false : (a b : Bool) → b ≡ false → (a || b) ≡ a
  or_false true b h = refl
  or_false false b h = h

  or_true : (a b : Bool) → b ≡ true → (a || b) ≡ true
  or_true true b h = refl
  or_true false b h = h

  pub one_more : (q r : X → Bool) (m : X) → q m ≡ false → (xs : List X) → Adds q r m xs → different same (filter r xs) ≡ different same (filter q xs) + cond (list_any (same m) xs) 1 0
  unfolding different
  one_more q r m h [] adds = omega arith
  one_more q r m h (x ∷ xs) adds =
      let after : different same (filter r xs) ≡ different same (filter q xs) + cond (list_any (same m) xs) 1 0 = one_more q r m h xs adds.1 in
      by_bool (same m x)
      (λ e. let is : m ≡ x = equal m x e in
      let here : r x ≡ true = adds.0 ∙ or_true (q x) (same m x) e in
      let out : q x ≡ false = subst (λ y. q y ≡ false) is h in
      different_keep r x xs here
      ∙ ap (λ y. cond (list_any (same y) xs) (different same (filter r xs)) (suc (different same (filter r xs)))) (sym is)
      ∙ number_same (list_any (same m) xs) (same m x) (different same (filter q xs)) (different same (filter r xs)) e after
      ∙ sym (ap (λ ys. different same ys + cond (list_any (same m) (x ∷ xs)) 1 0) (leave q x xs out)))
      (λ e. let alike : r x ≡ q x = adds.0 ∙ or_false (q x) (same m x) e in
      by_bool (q x)
      (λ k. different_keep r x xs (alike ∙ k)
      ∙ number_kept (list_any (same x) xs) (same m x) (list_any (same m) xs) (different same (filter q xs)) (different same (filter r xs)) e after
      ∙ sym (ap (λ n. n + cond (list_any (same m) (x ∷ xs)) 1 0) (different_keep q x xs k)))
      (λ k. ap (different same) (leave r x xs (alike ∙ k))
      ∙ number_left (same m x) (list_any (same m) xs) (different same (filter q xs)) (different same (filter r xs)) e after
      ∙ sym (ap (λ ys. different same ys + cond (list_any (same m) (x ∷ xs)) 1 0) (leave q x xs k))))

  -- on a list, two tests are the same
  abbrev pub Agree : (X → Bool) → (X → Bool) → List X → Type 0
  Agree q r [] = Unit {0}
  Agree q r (x ∷ xs) = (r x ≡ q x) × Agree q r xs

  pub filter_agreeing : (q r : X → Bool) (xs : List X) → Agree q r xs → filter r xs ≡ filter q xs
  filter_agreeing q r [] h = refl
  filter_agreeing q r (x ∷ xs) h = by_bool (q x)
      (λ k. keep r x xs (h.0 ∙ k) ∙ ap (λ ys. x ∷ ys) (filter_agreeing q r xs h.1) ∙ sym (keep q x xs k))
      (λ k. leave r x xs (h.0 ∙ k) ∙ filter_agreeing q r xs h.1 ∙ sym (leave q x xs k))

  -- what passes q is what passes r or equals m, which does not pass r
  pub fewer : (q r : X → Bool) (m : X) → r m ≡ false → (xs : List X) → Adds r q m xs → length (filter r xs) + cond (list_any (same m) xs) 1 0 ≤ length (filter q xs)
  fewer q r m h [] adds = omega arith
  fewer q r m h (x ∷ xs) adds =
      let after : length (filter r xs) + cond (list_any (same m) xs) 1 0 ≤ length (filter q xs) = fewer q r m h xs adds.1 in
      by_bool (same m x)
      (λ e. let is : m ≡ x = equal m x e in
      let here : q x ≡ true = adds.0 ∙ or_true (r x) (same m x) e in
      let out : r x ≡ false = subst (λ y. r y ≡ false) is h in
      let left : length (filter r (x ∷ xs)) ≡ length (filter r xs) = ap length (leave r x xs out) in
      let right : length (filter q (x ∷ xs)) ≡ suc (length (filter q xs)) = ap length (keep q x xs here) in
      let one : ◌≡◌ {A = ℕ} (cond (list_any (same m) (x ∷ xs)) 1 0) 1 = ap (λ b. cond (b || list_any (same m) xs) 1 0) e in
      omega (arith, after, left, right, one))
      (λ e. let alike : q x ≡ r x = adds.0 ∙ or_false (r x) (same m x) e in
      let one : ◌≡◌ {A = ℕ} (cond (list_any (same m) (x ∷ xs)) 1 0) (cond (list_any (same m) xs) 1 0) = ap (λ b. cond (b || list_any (same m) xs) 1 0) e in
      by_bool (r x)
      (λ k. let left : length (filter r (x ∷ xs)) ≡ suc (length (filter r xs)) = ap length (keep r x xs k) in
      let right : length (filter q (x ∷ xs)) ≡ suc (length (filter q xs)) = ap length (keep q x xs (alike ∙ k)) in
      omega (arith, after, left, right, one))
      (λ k. let left : length (filter r (x ∷ xs)) ≡ length (filter r xs) = ap length (leave r x xs k) in
      let right : length (filter q (x ∷ xs)) ≡ length (filter q xs) = ap length (leave q x xs (alike ∙ k)) in
      omega (arith, after, left, right, one)))
