-- That something is so of each item of a list, or of an item where there is one.
use Rattle.std.specs.Prelude.{◌≡◌, ℕ, zero, suc, ◌<◌, Bool, true, List, [], ◌∷◌, ◌++◌, length, Option, Some, None, slice_get, All}
use Rattle.std.specs.List.{list_any}
use Rattle.std.proofs.Common.{sym, inl, inr, true≢false, arith}
use Rattle.law_clauses.proofs.Same.{or_cases}

abbrev pub Each : {X : Type 0} → (X → Type 0) → List X → Type 0
Each P [] = Unit {0}
Each P (x ∷ xs) = P x × Each P xs

abbrev pub IfThere : {X : Type 0} → (X → Type 0) → Option X → Type 0
IfThere P None = Unit {0}
IfThere P (Some x) = P x

pub each_split : {X : Type 0} (P : X → Type 0) (xs ys : List X) → Each P (xs ++ ys) → Each P xs × Each P ys
each_split P [] ys h = (tt, h)
each_split P (x ∷ xs) ys h = let p = each_split P xs ys h.1 in ((h.0, p.0), p.1)

pub each_joined : {X : Type 0} (P : X → Type 0) (xs ys : List X) → Each P xs → Each P ys → Each P (xs ++ ys)
each_joined P [] ys h k = k
each_joined P (x ∷ xs) ys h k = (h.0, each_joined P xs ys h.1 k)

pub each_kept : {X : Type 0} (P Q : X → Type 0) → ((x : X) → P x → Q x) → (xs : List X) → Each P xs → Each Q xs
each_kept P Q f [] h = tt
each_kept P Q f (x ∷ xs) h = (f x h.0, each_kept P Q f xs h.1)

pub each_at : {X : Type 0} (P : X → Type 0) (xs : List X) (k : ℕ) → Each P xs → IfThere P (slice_get xs k)
each_at P [] k h = tt
each_at P (x ∷ xs) zero h = h.0
each_at P (x ∷ xs) (suc k) h = each_at P xs k h.1

pub each_of_all : {X : Type 0} (P : X → Type 0) (xs : List X) → All P xs → Each P xs
each_of_all P [] h = tt
each_of_all P (x ∷ xs) h =
    let first : P x = h zero x (omega arith) in
    (first, each_of_all P xs (λ k d low. let more : suc k < suc (length xs) = omega arith in h (suc k) d more))

-- an item that passes a test
pub any_found : {X : Type 0} {B : Type 0} (P : X → Type 0) (test : X → Bool) (xs : List X) → list_any test xs ≡ true → Each P xs → ((x : X) → test x ≡ true → P x → B) → B
any_found P test [] e h ret = absurd (true≢false (sym e))
any_found {B = B} P test (x ∷ xs) e h ret =
    elim (or_cases (test x) (list_any test xs) e) as (λ _. B) [
      | inl f ↦ ret x f h.0
      | inr f ↦ any_found P test xs f h.1 ret
    ]
