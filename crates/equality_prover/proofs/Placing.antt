-- Searches for the place of a term, and for the places of the arguments of a term.
use Rattle.std.specs.Prelude.{◌≡◌, ℕ, zero, suc, ◌+◌, ◌-◌, ◌<◌, ◌≤◌, true, false, cond, List, [], ◌∷◌, ◌++◌, length, get_or, map, Option, Some, None, slice_get, refl}
use Rattle.std.proofs.Common.{sym, ap, ◌∙◌, drop, add-one, append-nil, append_assoc, arith}
use Rattle.std.proofs.lemmas.List.{drop_all, drop_more, length_push}
use Rattle.std.proofs.lemmas.Option.{slice_get_within}
use Rattle.std.specs.Option.{option_map}
use Rattle.law_clauses.specs.Arguments.{Argument, identical}
use Rattle.law_clauses.specs.ArgumentView.{argument_of}
use Rattle.law_clauses.specs.declared.arguments.Argument as code
use Rattle.equality_prover.specs.Places.{place_of, places_of}

-- ---- one term
pub none_left : (terms : List code.Argument) (a : Argument) (i : ℕ) → length terms ≤ i → place_of (map argument_of (drop i terms)) a ≡ 0
unfolding place_of
none_left terms a i h = ap (λ ts. place_of (map argument_of ts) a) (drop_all i terms h)

next_place : (terms : List code.Argument) (a : Argument) (i : ℕ) (d : code.Argument) → i < length terms →
    place_of (map argument_of (drop i terms)) a ≡ cond (identical a (argument_of (get_or terms i d))) 0 (suc (place_of (map argument_of (drop (i + 1) terms)) a))
unfolding place_of
next_place terms a i d h = ap (λ ts. place_of (map argument_of ts) a) (drop_more terms i d h)

pub found : (terms : List code.Argument) (a : Argument) (i : ℕ) (d : code.Argument) → i < length terms → identical a (argument_of (get_or terms i d)) ≡ true →
    place_of (map argument_of (drop i terms)) a ≡ 0
found terms a i d h e = next_place terms a i d h ∙ ap (λ b. cond b 0 (suc (place_of (map argument_of (drop (i + 1) terms)) a))) e

pub goes_on : (terms : List code.Argument) (a : Argument) (i : ℕ) (d : code.Argument) → i < length terms → identical a (argument_of (get_or terms i d)) ≡ false →
    place_of (map argument_of (drop i terms)) a ≡ suc (place_of (map argument_of (drop (i + 1) terms)) a)
goes_on terms a i d h e = next_place terms a i d h ∙ ap (λ b. cond b 0 (suc (place_of (map argument_of (drop (i + 1) terms)) a))) e

-- ---- the arguments, from one of them on
from_place : {X : Type 0} → (xs : List X) (n : ℕ) (x : X) → slice_get xs n ≡ Some x → drop n xs ≡ x ∷ drop (suc n) xs
from_place [] n x e = absurd (cc)
from_place (y ∷ ys) zero x e = let f : y ≡ x = cc in ap (λ z. z ∷ ys) f
from_place (y ∷ ys) (suc n) x e = from_place ys n x e

past_end : {X : Type 0} → (xs : List X) (n : ℕ) → slice_get xs n ≡ None → drop n xs ≡ []
past_end [] zero e = refl
past_end [] (suc n) e = refl
past_end (y ∷ ys) zero e = absurd (cc)
past_end (y ∷ ys) (suc n) e = past_end ys n e

one_more : (terms items : List Argument) (row all : List ℕ) (n : ℕ) (a : code.Argument) → Some (argument_of a) ≡ slice_get items n → row ++ places_of terms (drop n items) ≡ all →
    (row ++ place_of terms (argument_of a) ∷ []) ++ places_of terms (drop (n + 1) items) ≡ all
one_more terms items row all n a e so_far =
    append_assoc row (place_of terms (argument_of a) ∷ []) (places_of terms (drop (n + 1) items))
    ∙ ap (λ m. row ++ (place_of terms (argument_of a) ∷ places_of terms (drop m items))) (add-one n)
    ∙ ap (λ xs. row ++ places_of terms xs) (sym (from_place items n (argument_of a) (sym e)))
    ∙ so_far

no_more : (terms items : List Argument) (row all : List ℕ) (n : ℕ) → None ≡ slice_get items n → row ++ places_of terms (drop n items) ≡ all → row ≡ all
no_more terms items row all n e so_far = sym (append-nil row) ∙ ap (λ xs. row ++ places_of terms xs) (sym (past_end items n (sym e))) ∙ so_far

pub row_more : (terms items : List Argument) (row all new : List ℕ) (n p : ℕ) (a : code.Argument) → n ≡ length row → Some (argument_of a) ≡ slice_get items n → p ≡ place_of terms (argument_of a)
    → new ≡ row ++ p ∷ [] → row ++ places_of terms (drop (length row) items) ≡ all → new ++ places_of terms (drop (length new) items) ≡ all
row_more terms items row all new n p a at e is grown so_far =
    let count : length new ≡ n + 1 = ap length grown ∙ length_push row p ∙ ap (λ m. m + 1) (sym at) in
    (λ j. grown j ++ places_of terms (drop (count j) items))
    ∙ (λ j. (row ++ is j ∷ []) ++ places_of terms (drop (n + 1) items))
    ∙ one_more terms items row all n a e (ap (λ m. row ++ places_of terms (drop m items)) at ∙ so_far)

pub row_done : (terms items : List Argument) (row all : List ℕ) (n : ℕ) (o : Option code.Argument) → n ≡ length row → option_map argument_of o ≡ slice_get items n → ((a : code.Argument) → o ≡ Some a → ⊥)
    → row ++ places_of terms (drop (length row) items) ≡ all → row ≡ all
row_done terms items row all n None at e none so_far = no_more terms items row all n e (ap (λ m. row ++ places_of terms (drop m items)) at ∙ so_far)
row_done terms items row all n (Some a) at e none so_far = absurd (none a refl)

pub falls : (items : List Argument) (n : ℕ) (a : code.Argument) → Some (argument_of a) ≡ slice_get items n → length items - (n + 1) < length items - n
falls items n a e = let h : n < length items = slice_get_within items n (argument_of a) (sym e) in omega arith
