-- Items of lists by their places, and tests of lists that pass at a place or at none.
use Rattle.std.specs.Prelude.{◌≡◌, ℕ, zero, suc, ◌+◌, ◌<◌, Bool, true, false, ◌&&◌, ◌||◌, List, [], ◌∷◌, ◌++◌, length, take, Some, slice_get, refl}
use Rattle.std.proofs.Common.{sym, ◌∙◌, ap, arith, true≢false, ◌⊎◌, inl, inr}
use Rattle.std.specs.List.{list_any}
use Rattle.std.proofs.lemmas.Option.{none-some, same_Some}

pub front : {X : Type 0} (xs ys : List X) (i : ℕ) (x : X) → slice_get xs i ≡ Some x → slice_get (xs ++ ys) i ≡ Some x
front [] ys i x h = absurd (none-some x h)
front (a ∷ xs) ys zero x h = h
front (a ∷ xs) ys (suc i) x h = front xs ys i x h

pub last_place : {X : Type 0} (xs : List X) (x : X) → slice_get (xs ++ x ∷ []) (length xs) ≡ Some x
last_place [] x = refl
last_place (a ∷ xs) x = last_place xs x

pub before_or_last : {X : Type 0} (xs : List X) (y : X) (i : ℕ) (x : X) → slice_get (xs ++ y ∷ []) i ≡ Some x → (slice_get xs i ≡ Some x) ⊎ ((i ≡ length xs) × (x ≡ y))
before_or_last [] y zero x h = inr (refl, sym (same_Some y x h))
before_or_last [] y (suc i) x h = absurd (none-some x h)
before_or_last (a ∷ xs) y zero x h = inl h
before_or_last (a ∷ xs) y (suc i) x h = elim (before_or_last xs y i x h) [ inl p ↦ inl p | inr q ↦ inr (ap suc q.0, q.1) ]

pub there : {X : Type 0} (xs : List X) (i : ℕ) → i < length xs → (x : X) × (slice_get xs i ≡ Some x)
there [] i h = absurd (omega arith)
there (a ∷ xs) zero h = (a, refl)
there (a ∷ xs) (suc i) h = there xs i (omega arith)

pub of_taken : {X : Type 0} (k : ℕ) (xs : List X) (i : ℕ) (x : X) → slice_get (take k xs) i ≡ Some x → slice_get xs i ≡ Some x
of_taken zero xs i x h = absurd (none-some x h)
of_taken (suc k) [] i x h = absurd (none-some x h)
of_taken (suc k) (a ∷ xs) zero x h = h
of_taken (suc k) (a ∷ xs) (suc i) x h = of_taken k xs i x h

or_true : (b : Bool) → (b || true) ≡ true
or_true true = refl
or_true false = refl

pub any_there : {X : Type 0} (test : X → Bool) (xs : List X) (i : ℕ) (x : X) → slice_get xs i ≡ Some x → test x ≡ true → list_any test xs ≡ true
any_there test [] i x h t = absurd (none-some x h)
any_there test (a ∷ xs) zero x h t = ap (λ b. b || list_any test xs) (ap test (same_Some a x h) ∙ t)
any_there test (a ∷ xs) (suc i) x h t = ap (λ b. test a || b) (any_there test xs i x h t) ∙ or_true (test a)

pub none_there : {X : Type 0} (test : X → Bool) (xs : List X) → ((i : ℕ) (x : X) → slice_get xs i ≡ Some x → test x ≡ false) → list_any test xs ≡ false
none_there test [] f = refl
none_there test (a ∷ xs) f = ap (λ b. b || list_any test xs) (f zero a refl) ∙ none_there test xs (λ i x h. f (suc i) x h)

pub both : (a b : Bool) → (a && b) ≡ true → (a ≡ true) × (b ≡ true)
both true b h = (refl, h)
both false b h = absurd (true≢false (sym h))

pub and_true : {a b : Bool} → a ≡ true → b ≡ true → (a && b) ≡ true
and_true {b = b} h k = ap (λ c. c && b) h ∙ k

pub take_past : {X : Type 0} (xs ys : List X) (n : ℕ) → take (length xs + n) (xs ++ ys) ≡ xs ++ take n ys
take_past [] ys n = let e : 0 + n ≡ n = omega arith in ap (λ k. take k ys) e
take_past (x ∷ xs) ys n =
    let e : suc (length xs) + n ≡ suc (length xs + n) = omega arith in
    ap (λ k. take k (x ∷ (xs ++ ys))) e ∙ ap (λ l. x ∷ l) (take_past xs ys n)
