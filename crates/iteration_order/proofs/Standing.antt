-- Where items stand in a list, by recursion on the list: that an item stands in it, before another, once.
-- These say the same as `Contains`, `Precedes` and `AllPairs`, which speak of places.
use Rattle.std.specs.Prelude.{◌≡◌, ◌≢◌, ◌⊎◌, ◌<◌, ℕ, zero, suc, List, [], ◌∷◌, ◌++◌, length, slice_index_or, Contains, AllPairs, refl}
use Rattle.std.proofs.Common.{sym, ap, subst, inl, inr, arith}
use Rattle.iteration_order.specs.Exchange.{Precedes}

abbrev pub Stands : {A : Type 0} → List A → A → Type 0
Stands [] x = ⊥
Stands (y ∷ ys) x = (y ≡ x) ⊎ Stands ys x

abbrev pub Before : {A : Type 0} → List A → A → A → Type 0
Before [] x y = ⊥
Before (z ∷ zs) x y = ((z ≡ x) × Stands zs y) ⊎ Before zs x y

abbrev pub Once : {A : Type 0} → List A → Type 0
Once [] = Unit {0}
Once (x ∷ xs) = (Stands xs x → ⊥) × Once xs

-- ---- the same by places
stands_at : {A : Type 0} (xs : List A) (x : A) (k : ℕ) → k < length xs → slice_index_or xs k x ≡ x → Stands xs x
stands_at [] x k lt e = absurd (omega arith)
stands_at (y ∷ ys) x zero lt e = inl e
stands_at (y ∷ ys) x (suc k) lt e = inr (stands_at ys x k (omega arith) e)

pub stands : {A : Type 0} (xs : List A) (x : A) → Contains xs x → Stands xs x
stands xs x (k, lt, e) = stands_at xs x k lt e

contains_later : {A : Type 0} (y : A) (ys : List A) (x : A) → Contains ys x → Contains (y ∷ ys) x
contains_later y ys x (k, lt, e) = (suc k, omega arith, e)

pub contains : {A : Type 0} (xs : List A) (x : A) → Stands xs x → Contains xs x
contains [] x s = absurd s
contains (y ∷ ys) x (inl e) = (zero, omega arith, e)
contains (y ∷ ys) x (inr s) = contains_later y ys x (contains ys x s)

before_at : {A : Type 0} (xs : List A) (x y : A) (i j : ℕ) → i < j → j < length xs → slice_index_or xs i x ≡ x → slice_index_or xs j y ≡ y → Before xs x y
before_at [] x y i j lt within e f = absurd (omega arith)
before_at (z ∷ zs) x y i zero lt within e f = absurd (omega arith)
before_at (z ∷ zs) x y zero (suc j) lt within e f = inl (e, stands_at zs y j (omega arith) f)
before_at (z ∷ zs) x y (suc i) (suc j) lt within e f = inr (before_at zs x y i j (omega arith) (omega arith) e f)

pub before : {A : Type 0} (xs : List A) (x y : A) → Precedes xs x y → Before xs x y
before xs x y p = before_at xs x y p.first p.second p.in_order p.within p.first_is p.second_is

precedes_first : {A : Type 0} (z : A) (zs : List A) (x y : A) → z ≡ x → Contains zs y → Precedes (z ∷ zs) x y
precedes_first z zs x y e (k, lt, f) = record { first = zero; second = suc k; in_order = omega arith; within = omega arith; first_is = e; second_is = f }

pub precedes : {A : Type 0} (xs : List A) (x y : A) → Before xs x y → Precedes xs x y
precedes [] x y b = absurd b
precedes (z ∷ zs) x y (inl (e, s)) = precedes_first z zs x y e (contains zs y s)
precedes (z ∷ zs) x y (inr b) =
    let p : Precedes zs x y = precedes zs x y b in
    let lt = p.in_order in
    let le = p.within in
    record { first = suc p.first; second = suc p.second; in_order = omega arith; within = omega arith; first_is = p.first_is; second_is = p.second_is }

later_differs : {A : Type 0} (x : A) (xs : List A) → AllPairs (λ x y. x ≢ y) (x ∷ xs) → Contains xs x → ⊥
later_differs x xs apart (k, lt, e) = apart zero (suc k) x (omega arith) (omega arith) (sym e)

pub once : {A : Type 0} (xs : List A) → AllPairs (λ x y. x ≢ y) xs → Once xs
once [] apart = tt
once (x ∷ xs) apart =
    (λ s. later_differs x xs apart (contains xs x s), once xs (λ i j d lt within. apart (suc i) (suc j) d (omega arith) (omega arith)))

-- ---- an item in the middle
module _ {A : Type 0} (y : A) (rear : List A) where
  pub stands_mid : (front : List A) → Stands (front ++ y ∷ rear) y
  stands_mid [] = inl refl
  stands_mid (z ∷ front) = inr (stands_mid front)

  pub stands_wide : (front : List A) (x : A) → Stands (front ++ rear) x → Stands (front ++ y ∷ rear) x
  stands_wide [] x s = inr s
  stands_wide (z ∷ front) x (inl e) = inl e
  stands_wide (z ∷ front) x (inr s) = inr (stands_wide front x s)

  pub stands_left : (front : List A) (x : A) → Stands front x → Stands (front ++ rear) x
  stands_left [] x s = absurd s
  stands_left (z ∷ front) x (inl e) = inl e
  stands_left (z ∷ front) x (inr s) = inr (stands_left front x s)

  pub stands_cases : (front : List A) (x : A) → Stands (front ++ y ∷ rear) x → (y ≡ x) ⊎ Stands (front ++ rear) x
  stands_cases [] x s = s
  stands_cases (z ∷ front) x (inl e) = inr (inl e)
  stands_cases (z ∷ front) x (inr s) = elim (stands_cases front x s) [ inl e ↦ inl e | inr r ↦ inr (inr r) ]

  pub not_twice : (front : List A) → Once (front ++ y ∷ rear) → Stands (front ++ rear) y → ⊥
  not_twice [] o s = o.0 s
  not_twice (z ∷ front) o (inl e) = o.0 (subst (λ a. Stands (front ++ y ∷ rear) a) (sym e) (stands_mid front))
  not_twice (z ∷ front) o (inr s) = not_twice front o.1 s

  pub once_rest : (front : List A) → Once (front ++ y ∷ rear) → Once (front ++ rear)
  once_rest [] o = o.1
  once_rest (z ∷ front) o = (λ s. o.0 (stands_wide front z s), once_rest front o.1)

  pub before_wide : (front : List A) (a b : A) → Before (front ++ rear) a b → Before (front ++ y ∷ rear) a b
  before_wide [] a b p = inr p
  before_wide (z ∷ front) a b (inl (e, s)) = inl (e, stands_wide front b s)
  before_wide (z ∷ front) a b (inr p) = inr (before_wide front a b p)

  pub before_mid : (front : List A) (x : A) → Stands front x → Before (front ++ y ∷ rear) x y
  before_mid [] x s = absurd s
  before_mid (z ∷ front) x (inl e) = inl (e, stands_mid front)
  before_mid (z ∷ front) x (inr s) = inr (before_mid front x s)

-- a list in which an item stands, as what is before it, the item, and what is after it
pub record Split {A : Type 0} (xs : List A) (y : A) : Type 0 where
  pub front : List A
  pub rear : List A
  pub is : xs ≡ front ++ y ∷ rear

pub split : {A : Type 0} (xs : List A) (y : A) → Stands xs y → Split xs y
split [] y s = absurd s
split (x ∷ xs) y (inl e) = record { front = []; rear = xs; is = ap (λ a. a ∷ xs) e }
split (x ∷ xs) y (inr s) =
    let rest : Split xs y = split xs y s in
    record { front = x ∷ rest.front; rear = rest.rear; is = ap (λ l. x ∷ l) rest.is }
