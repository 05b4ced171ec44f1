-- Items of lists that are joined, mapped and put together from pieces; lists in which each item is related to each later one.
use Rattle.std.specs.Prelude.{◌≡◌, ◌⊎◌, zero, suc, List, [], ◌∷◌, ◌++◌, map, AllPairs, refl}
use Rattle.std.specs.List.{flat_map}
use Rattle.std.proofs.Common.{sym, ap, subst, inl, inr, arith}
use Rattle.std.proofs.lemmas.List.Elements.{Contains-get_or}
use Rattle.iteration_order.proofs.Standing.{Stands, stands}

pub stands_front : {A : Type 0} (xs ys : List A) (x : A) → Stands xs x → Stands (xs ++ ys) x
stands_front [] ys x s = absurd s
stands_front (z ∷ xs) ys x (inl e) = inl e
stands_front (z ∷ xs) ys x (inr s) = inr (stands_front xs ys x s)

pub stands_rear : {A : Type 0} (xs ys : List A) (x : A) → Stands ys x → Stands (xs ++ ys) x
stands_rear [] ys x s = s
stands_rear (z ∷ xs) ys x s = inr (stands_rear xs ys x s)

pub stands_either : {A : Type 0} (xs ys : List A) (x : A) → Stands (xs ++ ys) x → Stands xs x ⊎ Stands ys x
stands_either [] ys x s = inr s
stands_either (z ∷ xs) ys x (inl e) = inl (inl e)
stands_either (z ∷ xs) ys x (inr s) = elim (stands_either xs ys x s) [ inl r ↦ inl (inr r) | inr r ↦ inr r ]

-- ---- images
pub record Image {A B : Type 0} (f : A → B) (xs : List A) (y : B) : Type 0 where
  pub item : A
  pub stands : Stands xs item
  pub is : f item ≡ y

pub stands_map : {A B : Type 0} (f : A → B) (xs : List A) (x : A) → Stands xs x → Stands (map f xs) (f x)
stands_map f [] x s = absurd s
stands_map f (z ∷ xs) x (inl e) = inl (ap f e)
stands_map f (z ∷ xs) x (inr s) = inr (stands_map f xs x s)

pub stands_image : {A B : Type 0} (f : A → B) (xs : List A) (y : B) → Stands (map f xs) y → Image f xs y
stands_image f [] y s = absurd s
stands_image f (z ∷ xs) y (inl e) = record { item = z; stands = inl refl; is = e }
stands_image f (z ∷ xs) y (inr s) =
    let rest : Image f xs y = stands_image f xs y s in
    record { item = rest.item; stands = inr rest.stands; is = rest.is }

-- ---- pieces
pub record Piece {A B : Type 0} (f : A → List B) (xs : List A) (y : B) : Type 0 where
  pub item : A
  pub stands : Stands xs item
  pub holds : Stands (f item) y

pub stands_flat_map : {A B : Type 0} (f : A → List B) (xs : List A) (x : A) (y : B) → Stands xs x → Stands (f x) y → Stands (flat_map f xs) y
stands_flat_map f [] x y s r = absurd s
stands_flat_map f (z ∷ xs) x y (inl e) r = stands_front (f z) (flat_map f xs) y (subst (λ a. Stands (f a) y) (sym e) r)
stands_flat_map f (z ∷ xs) x y (inr s) r = stands_rear (f z) (flat_map f xs) y (stands_flat_map f xs x y s r)

later_piece : {A B : Type 0} (f : A → List B) (z : A) (xs : List A) (y : B) → Piece f xs y → Piece f (z ∷ xs) y
later_piece f z xs y p = record { item = p.item; stands = inr p.stands; holds = p.holds }

pub stands_piece : {A B : Type 0} (f : A → List B) (xs : List A) (y : B) → Stands (flat_map f xs) y → Piece f xs y
stands_piece f [] y s = absurd s
stands_piece {A} {B} f (z ∷ xs) y s = elim (stands_either (f z) (flat_map f xs) y s) as (λ _. Piece f (z ∷ xs) y) [
  | inl r ↦ record { item = z; stands = inl refl; holds = r }
  | inr r ↦ later_piece f z xs y (stands_piece f xs y r)
]

-- ---- each item is related to each later one
abbrev pub Ascends : {A : Type 0} → (A → A → Type 0) → List A → Type 0
Ascends R [] = Unit {0}
Ascends {A} R (x ∷ xs) = ((y : A) → Stands xs y → R x y) × Ascends R xs

pub pairs_ascend : {A : Type 0} (R : A → A → Type 0) (xs : List A) → Ascends R xs → AllPairs R xs
pairs_ascend R [] a i j d lt within = absurd (omega arith)
pairs_ascend R (x ∷ xs) a zero zero d lt within = absurd (omega arith)
pairs_ascend R (x ∷ xs) a zero (suc j) d lt within = a.0 _ (stands xs _ (Contains-get_or xs j d (omega arith)))
pairs_ascend R (x ∷ xs) a (suc i) zero d lt within = absurd (omega arith)
pairs_ascend R (x ∷ xs) a (suc i) (suc j) d lt within = pairs_ascend R xs a.1 i j d (omega arith) (omega arith)

pub ascends_append : {A : Type 0} (R : A → A → Type 0) (xs ys : List A) → Ascends R xs → Ascends R ys →
    ((x y : A) → Stands xs x → Stands ys y → R x y) → Ascends R (xs ++ ys)
ascends_append R [] ys a b cross = b
ascends_append R (x ∷ xs) ys a b cross = (
  λ y s. elim (stands_either xs ys y s) as (λ _. R x y) [ inl r ↦ a.0 y r | inr r ↦ cross x y (inl refl) r ],
  ascends_append R xs ys a.1 b (λ u v s t. cross u v (inr s) t),
)

pub ascends_map : {A B : Type 0} (S : A → A → Type 0) (R : B → B → Type 0) (f : A → B) (xs : List A) → Ascends S xs →
    ((x y : A) → S x y → R (f x) (f y)) → Ascends R (map f xs)
ascends_map S R f [] a keeps = tt
ascends_map S R f (x ∷ xs) a keeps = (
  λ y s.
      let image : Image f xs y = stands_image f xs y s in
      subst (λ z. R (f x) z) image.is (keeps x image.item (a.0 image.item image.stands)),
  ascends_map S R f xs a.1 keeps,
)

pub ascends_flat_map : {A B : Type 0} (S : A → A → Type 0) (R : B → B → Type 0) (f : A → List B) (xs : List A) → Ascends S xs →
    ((x : A) → Ascends R (f x)) → ((x y : A) (u v : B) → S x y → Stands (f x) u → Stands (f y) v → R u v) → Ascends R (flat_map f xs)
ascends_flat_map S R f [] a each cross = tt
ascends_flat_map S R f (x ∷ xs) a each cross =
    ascends_append R (f x) (flat_map f xs) (each x) (ascends_flat_map S R f xs a.1 each cross)
    (λ u v s t.
    let piece : Piece f xs v = stands_piece f xs v t in
    cross x piece.item u v (a.0 piece.item piece.stands) s piece.holds)
