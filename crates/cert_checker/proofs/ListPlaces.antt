-- What stands somewhere in a list.
use Rattle.std.specs.Prelude.{◌≡◌, ◌<◌, ℕ, zero, suc, Bool, true, List, [], ◌∷◌, ◌++◌, map, length, Some, slice_get, slice_index_or, All, refl}
use Rattle.std.specs.List.{list_all}
use Rattle.std.proofs.Common.{sym, ◌∙◌, ap, subst, arith}
use Rattle.std.proofs.lemmas.Bool.{and_parts}

pub record Among {X : Type 0} (xs : List X) (x : X) : Type 0 where
  pub number : ℕ
  pub there : slice_get xs number ≡ Some x

pub among_head : {X : Type 0} (x : X) (xs : List X) → Among (x ∷ xs) x
among_head x xs = record { number = 0; there = refl }

pub among_tail : {X : Type 0} (y : X) (xs : List X) (x : X) → Among xs x → Among (y ∷ xs) x
among_tail y xs x a = record { number = suc a.number; there = a.there }

pub among_left : {X : Type 0} (xs ys : List X) (x : X) (n : ℕ) → slice_get xs n ≡ Some x → Among (xs ++ ys) x
among_left [] ys x n e = cc
among_left (y ∷ xs) ys x zero e = record { number = 0; there = e }
among_left (y ∷ xs) ys x (suc n) e = among_tail y (xs ++ ys) x (among_left xs ys x n e)

pub among_right : {X : Type 0} (xs ys : List X) (x : X) → Among ys x → Among (xs ++ ys) x
among_right [] ys x a = a
among_right (y ∷ xs) ys x a = among_tail y (xs ++ ys) x (among_right xs ys x a)

pub among_map : {X Y : Type 0} (f : X → Y) (xs : List X) (x : X) (n : ℕ) → slice_get xs n ≡ Some x → Among (map f xs) (f x)
among_map f [] x n e = cc
among_map f (y ∷ xs) x zero e =
    let same : y ≡ x = cc in
    record { number = 0; there = ap (λ z. Some (f z)) same }
among_map f (y ∷ xs) x (suc n) e = among_tail (f y) (map f xs) (f x) (among_map f xs x n e)

pub record Before {X Y : Type 0} (f : X → Y) (xs : List X) (y : Y) : Type 0 where
  pub item : X
  pub number : ℕ
  pub there : slice_get xs number ≡ Some item
  pub is : f item ≡ y

pub mapped : {X Y : Type 0} (f : X → Y) (xs : List X) (y : Y) (n : ℕ) → slice_get (map f xs) n ≡ Some y → Before f xs y
mapped f [] y n e = cc
mapped f (x ∷ xs) y zero e = record { item = x; number = 0; there = refl; is = same e }
  where
    same : Some (f x) ≡ Some y → f x ≡ y
    same h = cc
mapped f (x ∷ xs) y (suc n) e =
    let found : Before f xs y = mapped f xs y n e in
    record { item = found.item; number = suc found.number; there = found.there; is = found.is }

index_is : {X : Type 0} (xs : List X) (k : ℕ) (x : X) → slice_get xs k ≡ Some x → (k < length xs) × (slice_index_or xs k x ≡ x)
index_is [] k x e = cc
index_is (y ∷ xs) zero x e =
    let same : y ≡ x = cc in
    (omega arith, same)
index_is (y ∷ xs) (suc k) x e =
    let h : (k < length xs) × (slice_index_or xs k x ≡ x) = index_is xs k x e in
    (omega (arith, h.0), h.1)

pub of_all : {X : Type 0} (P : X → Type 0) (xs : List X) → All P xs → (k : ℕ) (x : X) → slice_get xs k ≡ Some x → P x
of_all P xs all k x e =
    let h = index_is xs k x e in
    subst P h.1 (all k x h.0)

-- where all items pass a test, the item at a place does
pub passes_at : {X : Type 0} (q : X → Bool) (xs : List X) (k : ℕ) (x : X) → list_all q xs ≡ true → slice_get xs k ≡ Some x → q x ≡ true
passes_at q [] k x h e = cc
passes_at q (y ∷ xs) zero x h e =
    let same : y ≡ x = cc in
    ap q (sym same) ∙ (and_parts (q y) (list_all q xs) h).0
passes_at q (y ∷ xs) (suc k) x h e = passes_at q xs k x (and_parts (q y) (list_all q xs) h).1 e
