-- Lists with the same members, and lists that hold each item once.
use Rattle.std.specs.Prelude.{◌≡◌, ◌≢◌, ℕ, ◌<◌, Bool, true, false, cond, ◌||◌, List, [], ◌∷◌, ◌++◌, length, AllPairs, refl}
use Rattle.std.proofs.Common.{sym, ◌∙◌, ap, subst, get_or, append_assoc, inl, inr}
use Rattle.std.specs.List.{list_any, flat_map}
use Rattle.std.proofs.lemmas.List.{append-nil}
use Rattle.std.proofs.lemmas.List.Quantifiers.{all_pairs_push}
use Rattle.std.proofs.lemmas.List.Elements.{Contains-get_or}
use Rattle.std.proofs.lemmas.Bool.{both_ways}
use Rattle.rule_terms.specs.Added.{added, added_all}
use Rattle.rule_terms.proofs.Members.{In, in_from, from_in, in_left, in_right, in_either}
use Rattle.term_universe.specs.Universe.{ListsOnce}
use Rattle.term_universe.proofs.Different.{by_bool}

module _ {X : Type 0} where
  -- the members of xs are members of ys
  pub record Within (xs ys : List X) : Type 0 where
    pub each : (x : X) → In x xs → In x ys

  pub within_itself : (xs : List X) → Within xs xs
  within_itself xs = record { each = λ x h. h }

  pub within_append : (xs ys us vs : List X) → Within xs us → Within ys vs → Within (xs ++ ys) (us ++ vs)
  within_append xs ys us vs a b = record { each = λ x h. elim (in_either xs ys x h) [ inl p ↦ in_left us vs x (a.each x p) | inr q ↦ in_right us vs x (b.each x q) ] }

  pub within_cons : (z : X) (xs ys : List X) → Within xs ys → Within (z ∷ xs) (z ∷ ys)
  within_cons z xs ys a = record { each = λ x h. elim h [ inl e ↦ inl e | inr k ↦ inr (a.each x k) ] }

module _ {X Y : Type 0} where
  -- the item from whose list it is
  pub record Source (f : X → List Y) (xs : List X) (y : Y) : Type 0 where
    pub item : X
    pub there : In item xs
    pub its : In y (f item)

  pub source : (f : X → List Y) (xs : List X) (y : Y) → In y (flat_map f xs) → Source f xs y
  source f [] y h = elim h [ ]
  source f (x ∷ xs) y h = elim (in_either (f x) (flat_map f xs) y h) [
    | inl a ↦ record { item = x; there = inl refl; its = a }
    | inr b ↦ (let s : Source f xs y = source f xs y b in record { item = s.item; there = inr s.there; its = s.its })
  ]

  pub in_flat : (f : X → List Y) (xs : List X) (x : X) (y : Y) → In x xs → In y (f x) → In y (flat_map f xs)
  in_flat f [] x y h k = elim h [ ]
  in_flat f (z ∷ zs) x y (inl e) k = in_left (f z) (flat_map f zs) y (subst (λ u. In y (f u)) (sym e) k)
  in_flat f (z ∷ zs) x y (inr h) k = in_right (f z) (flat_map f zs) y (in_flat f zs x y h k)

  pub within_flat : (f g : X → List Y) (xs ys : List X) → Within xs ys → ((x : X) → Within (f x) (g x)) → Within (flat_map f xs) (flat_map g ys)
  within_flat f g xs ys a b = record {
    each = λ y h.
        let s : Source f xs y = source f xs y h in
        in_flat g ys s.item y (a.each s.item s.there) ((b s.item).each y s.its);
  }

module _ {X : Type 0} (same : X → X → Bool) (equal : (x y : X) → same x y ≡ true → x ≡ y) (itself : (x : X) → same x x ≡ true) where
  pub any_in : (x : X) (xs : List X) → list_any (same x) xs ≡ true → In x xs
  any_in x [] h = cc
  any_in x (y ∷ ys) h = by_bool (same x y)
      (λ e. inl (sym (equal x y e)))
      (λ e. inr (any_in x ys (sym (ap (λ b. b || list_any (same x) ys) e) ∙ h)))

  pub in_any : (x : X) (xs : List X) → In x xs → list_any (same x) xs ≡ true
  in_any x [] h = elim h [ ]
  in_any x (y ∷ ys) (inl e) = ap (λ b. b || list_any (same x) ys) (subst (λ z. same x z ≡ true) (sym e) (itself x))
  in_any x (y ∷ ys) (inr h) = by_bool (same x y)
      (λ e. ap (λ b. b || list_any (same x) ys) e)
      (λ e. ap (λ b. b || list_any (same x) ys) e ∙ in_any x ys h)

  pub record Holds (xs items : List X) : Type 0 where
    pub to : Within xs items
    pub back : Within items xs
    pub once : AllPairs (λ x y. x ≢ y) xs

  pub lists : (xs items : List X) → Holds xs items → ListsOnce xs items
  lists xs items h = record {
    exact = λ x. ((λ c. from_in items x (h.to.each x (in_from xs x c))), (λ c. from_in xs x (h.back.each x (in_from items x c))));
    once = h.once;
  }

  new : (xs : List X) (x : X) → list_any (same x) xs ≡ false → (k : ℕ) (d : X) → k < length xs → get_or xs k d ≢ x
  new xs x h k d lt e =
      let c : In (get_or xs k d) xs = in_from xs (get_or xs k d) (Contains-get_or xs k d lt) in
      both_ways (list_any (same x) xs) h (in_any x xs (subst (λ y. In y xs) e c))

  holds_added : (xs items : List X) (x : X) → Holds xs items → Holds (added same xs x) (items ++ x ∷ [])
  holds_added xs items x h = by_bool (list_any (same x) xs)
      (λ e. subst (λ ys. Holds ys (items ++ x ∷ [])) (sym (ap (λ b. cond b xs (xs ++ x ∷ [])) e)) (record {
        to = record { each = λ y k. in_left items (x ∷ []) y (h.to.each y k) };
        back = record { each = λ y k. elim (in_either items (x ∷ []) y k) [ inl a ↦ h.back.each y a | inr b ↦ only y xs x b (any_in x xs e) ] };
        once = h.once;
      }))
      (λ e. subst (λ ys. Holds ys (items ++ x ∷ [])) (sym (ap (λ b. cond b xs (xs ++ x ∷ [])) e)) (record {
        to = within_append xs (x ∷ []) items (x ∷ []) h.to (within_itself (x ∷ []));
        back = within_append items (x ∷ []) xs (x ∷ []) h.back (within_itself (x ∷ []));
        once = all_pairs_push (λ a b. a ≢ b) xs x h.once (new xs x e);
      }))
    where
      only : (y : X) (xs : List X) (x : X) → In y (x ∷ []) → In x xs → In y xs
      only y xs x (inl e) k = subst (λ z. In z xs) e k
      only y xs x (inr h) k = absurd h

  pub holds_all : (xs items ys : List X) → Holds xs items → Holds (added_all same xs ys) (items ++ ys)
  unfolding added_all
  holds_all xs items [] h = subst (Holds xs) (sym (append-nil items)) h
  holds_all xs items (y ∷ ys) h = subst (Holds (added_all same (added same xs y) ys)) (append_assoc items (y ∷ []) ys) (holds_all (added same xs y) (items ++ y ∷ []) ys (holds_added xs items y h))

pub added_append : {X : Type 0} (same : X → X → Bool) (xs ys zs : List X) → added_all same xs (ys ++ zs) ≡ added_all same (added_all same xs ys) zs
unfolding added_all
added_append same xs [] zs = refl
added_append same xs (y ∷ ys) zs = added_append same (added same xs y) ys zs
