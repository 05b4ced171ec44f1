-- Of a list: how many items pass a test, and which one does where it is one alone.
-- What is made of each item, where only those that pass lead to anything: only the one that passes does.
use Rattle.std.specs.Prelude.{◌≡◌, ℕ, ◌+◌, ◌⊎◌, Bool, true, false, cond, List, [], ◌∷◌, ◌++◌, map, flat_map, filter, refl}
use Rattle.std.specs.List.{list_any}
use Rattle.std.proofs.Common.{sym, ◌∙◌, ap, subst, inl, inr, arith}
use Rattle.std.proofs.lemmas.Bool.{or_parts}
use Rattle.std.proofs.lemmas.List.{append-nil}
use Rattle.std.proofs.lemmas.List.Elements.{filter-append}

abbrev pub one : Bool → ℕ
one true = 1
one false = 0

abbrev pub how_many : {X : Type 0} → (X → Bool) → List X → ℕ
how_many q [] = 0
how_many q (x ∷ xs) = one (q x) + how_many q xs

-- an item of a list
abbrev pub Among : {X : Type 0} → X → List X → Type 0
Among v [] = ⊥
Among v (x ∷ xs) = (v ≡ x) ⊎ Among v xs

-- ---- plain facts of lists
head_or : {X : Type 0} → X → List X → X
head_or d [] = d
head_or d (x ∷ xs) = x

tail_of : {X : Type 0} → List X → List X
tail_of [] = []
tail_of (x ∷ xs) = xs

pub same_head : {X : Type 0} (x y : X) (xs ys : List X) → x ∷ xs ≡ y ∷ ys → x ≡ y
unfolding head_or
same_head x y xs ys e = ap (head_or x) e

pub same_tail : {X : Type 0} (x y : X) (xs ys : List X) → x ∷ xs ≡ y ∷ ys → xs ≡ ys
unfolding tail_of
same_tail x y xs ys e = ap tail_of e

pub none_cons : {X : Type 0} {A : Type 0} (x : X) (xs : List X) → x ∷ xs ≡ [] → A
none_cons x xs e = cc

pub cons_none : {X : Type 0} {A : Type 0} (x : X) (xs : List X) → [] ≡ x ∷ xs → A
cons_none x xs e = cc

-- ---- how many
module _ {X : Type 0} (q : X → Bool) where
  pub how_many_append : (xs ys : List X) → how_many q (xs ++ ys) ≡ how_many q xs + how_many q ys
  how_many_append [] ys = omega arith
  how_many_append (x ∷ xs) ys = let e : how_many q (xs ++ ys) ≡ how_many q xs + how_many q ys = how_many_append xs ys in omega (arith, e)

  none_here : (b : Bool) (x : X) (n : ℕ) (ys : List X) → one b + n ≡ 0 → (n ≡ 0 → ys ≡ []) → cond b (x ∷ ys) ys ≡ []
  none_here true x n ys e h = absurd (omega (arith, e))
  none_here false x n ys e h = h (omega (arith, e))

  pub none_pass : (xs : List X) → how_many q xs ≡ 0 → filter q xs ≡ []
  none_pass [] e = refl
  none_pass (x ∷ xs) e = none_here (q x) x (how_many q xs) (filter q xs) e (none_pass xs)

  one_here : (b : Bool) (x : X) (n : ℕ) (ys : List X) → one b + n ≡ 1 → (n ≡ 0 → ys ≡ []) → (n ≡ 1 → (z : X) × (ys ≡ z ∷ [])) → (z : X) × (cond b (x ∷ ys) ys ≡ z ∷ [])
  one_here true x n ys e h g = (x, ap (λ zs. x ∷ zs) (h (omega (arith, e))))
  one_here false x n ys e h g = g (omega (arith, e))

  pub one_passes : (xs : List X) → how_many q xs ≡ 1 → (z : X) × (filter q xs ≡ z ∷ [])
  one_passes [] e = absurd (omega (arith, e))
  one_passes (x ∷ xs) e = one_here (q x) x (how_many q xs) (filter q xs) e (none_pass xs) (one_passes xs)

  passes_here : (b : Bool) (x v : X) (ys : List X) → q x ≡ b → cond b (x ∷ ys) ys ≡ v ∷ [] → (ys ≡ v ∷ [] → q v ≡ true) → q v ≡ true
  passes_here true x v ys d e h = subst (λ z. q z ≡ true) (same_head x v ys [] e) d
  passes_here false x v ys d e h = h e

  -- the one that passes
  pub passes : (xs : List X) (v : X) → filter q xs ≡ v ∷ [] → q v ≡ true
  passes [] v e = cons_none v [] e
  passes (x ∷ xs) v e = passes_here (q x) x v (filter q xs) refl e (passes xs v)

  among_here : (b : Bool) (x v : X) (xs ys : List X) → cond b (x ∷ ys) ys ≡ v ∷ [] → (ys ≡ v ∷ [] → Among v xs) → (v ≡ x) ⊎ Among v xs
  among_here true x v xs ys e h = inl (sym (same_head x v ys [] e))
  among_here false x v xs ys e h = inr (h e)

  pub among : (xs : List X) (v : X) → filter q xs ≡ v ∷ [] → Among v xs
  among [] v e = cons_none v [] e
  among (x ∷ xs) v e = among_here (q x) x v xs (filter q xs) e (among xs v)

  pub only_one : (x : X) → q x ≡ true → filter q (x ∷ []) ≡ x ∷ []
  only_one x e = ap (λ b. cond b (x ∷ []) []) e

  pub not_one : (x : X) → q x ≡ false → filter q (x ∷ []) ≡ []
  not_one x e = ap (λ b. cond b (x ∷ []) []) e

  pub first_of_two : (x y : X) → q x ≡ true → q y ≡ false → filter q (x ∷ y ∷ []) ≡ x ∷ []
  first_of_two x y e d = ap (λ b. cond b (x ∷ filter q (y ∷ [])) (filter q (y ∷ []))) e ∙ ap (λ zs. x ∷ zs) (not_one y d)

  pub second_of_two : (x y : X) → q x ≡ false → q y ≡ true → filter q (x ∷ y ∷ []) ≡ y ∷ []
  second_of_two x y e d = ap (λ b. cond b (x ∷ filter q (y ∷ [])) (filter q (y ∷ []))) e ∙ only_one y d

  pub none_of_two : (x y : X) → q x ≡ false → q y ≡ false → filter q (x ∷ y ∷ []) ≡ []
  none_of_two x y e d = ap (λ b. cond b (x ∷ filter q (y ∷ [])) (filter q (y ∷ []))) e ∙ not_one y d

  -- one of two lists has the one that passes
  pub in_first : (xs ys : List X) (v : X) → filter q xs ≡ v ∷ [] → filter q ys ≡ [] → filter q (xs ++ ys) ≡ v ∷ []
  in_first xs ys v e d = filter-append q xs ys ∙ (λ i. e i ++ d i)

  pub in_second : (xs ys : List X) (v : X) → filter q xs ≡ [] → filter q ys ≡ v ∷ [] → filter q (xs ++ ys) ≡ v ∷ []
  in_second xs ys v e d = filter-append q xs ys ∙ (λ i. e i ++ d i)

  pub in_neither : (xs ys : List X) → filter q xs ≡ [] → filter q ys ≡ [] → filter q (xs ++ ys) ≡ []
  in_neither xs ys e d = filter-append q xs ys ∙ (λ i. e i ++ d i)

-- ---- what is made of each item
module _ {X Y : Type 0} (p : X → Bool) (q : Y → Bool) (f : X → Y) where
  mapped_here : (b : Bool) (x : X) (us : List Y) (vs : List X) → us ≡ map f vs → cond b (f x ∷ us) us ≡ map f (cond b (x ∷ vs) vs)
  mapped_here true x us vs e = ap (λ zs. f x ∷ zs) e
  mapped_here false x us vs e = e

  pub filter-map : ((x : X) → q (f x) ≡ p x) → (xs : List X) → filter q (map f xs) ≡ map f (filter p xs)
  filter-map h [] = refl
  filter-map h (x ∷ xs) =
      ap (λ b. cond b (f x ∷ filter q (map f xs)) (filter q (map f xs))) (h x) ∙ mapped_here (p x) x (filter q (map f xs)) (filter p xs) (filter-map h xs)

  pub none_made : ((x : X) → q (f x) ≡ false) → (xs : List X) → filter q (map f xs) ≡ []
  none_made h [] = refl
  none_made h (x ∷ xs) = ap (λ b. cond b (f x ∷ filter q (map f xs)) (filter q (map f xs))) (h x) ∙ none_made h xs

module _ {X Y : Type 0} (p : X → Bool) (q : Y → Bool) (f : X → List Y) (leads : (x : X) → p x ≡ false → filter q (f x) ≡ []) where
  none_led_here : (b : Bool) (x : X) (vs : List X) (us : List Y) → p x ≡ b → cond b (x ∷ vs) vs ≡ [] → (vs ≡ [] → us ≡ []) → filter q (f x) ++ us ≡ []
  none_led_here true x vs us d e h = none_cons x vs e
  none_led_here false x vs us d e h = λ i. leads x d i ++ h e i

  pub none_led : (xs : List X) → filter p xs ≡ [] → filter q (flat_map f xs) ≡ []
  none_led [] e = refl
  none_led (x ∷ xs) e = filter-append q (f x) (flat_map f xs) ∙ none_led_here (p x) x (filter p xs) (filter q (flat_map f xs)) refl e (none_led xs)

  one_led_here : (b : Bool) (x v : X) (vs : List X) (us : List Y) → p x ≡ b → cond b (x ∷ vs) vs ≡ v ∷ [] → (vs ≡ [] → us ≡ []) → (vs ≡ v ∷ [] → us ≡ filter q (f v)) → filter q (f x) ++ us ≡ filter q (f v)
  one_led_here true x v vs us d e h g =
      (λ i. filter q (f (same_head x v vs [] e i)) ++ h (same_tail x v vs [] e) i) ∙ append-nil (filter q (f v))
  one_led_here false x v vs us d e h g = λ i. leads x d i ++ g e i

  pub one_led : (xs : List X) (v : X) → filter p xs ≡ v ∷ [] → filter q (flat_map f xs) ≡ filter q (f v)
  one_led [] v e = cons_none v [] e
  one_led (x ∷ xs) v e =
      filter-append q (f x) (flat_map f xs) ∙ one_led_here (p x) x v (filter p xs) (filter q (flat_map f xs)) refl e (none_led xs) (one_led xs v)

-- ---- an item of a list
pub among_any : {X : Type 0} (k : X → Bool) (xs : List X) (v : X) → Among v xs → list_any k xs ≡ false → k v ≡ false
among_any k [] v h e = absurd h
among_any k (x ∷ xs) v (inl d) e = ap k d ∙ (or_parts (k x) (list_any k xs) e).0
among_any k (x ∷ xs) v (inr h) e = among_any k xs v h (or_parts (k x) (list_any k xs) e).1

pub among_made : {X Y : Type 0} (f : X → List Y) (C : List Y → Type 0) → ((us vs : List Y) → C (us ++ vs) → C us × C vs) → (xs : List X) (v : X) → Among v xs → C (flat_map f xs) → C (f v)
among_made f C cut [] v h c = absurd h
among_made f C cut (x ∷ xs) v (inl d) c = subst (λ z. C (f z)) (sym d) (cut (f x) (flat_map f xs) c).0
among_made f C cut (x ∷ xs) v (inr h) c = among_made f C cut xs v h (cut (f x) (flat_map f xs) c).1
