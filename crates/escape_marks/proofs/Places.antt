-- The first place at which a test fails: what passes in front of a place, and at it.
use Rattle.std.proofs.Common.{take_all, length-drop, drop, ◌-◌, ◌≡◌, ℕ, zero, suc, Bool, true, false, ◌&&◌, ◌<◌, List, [], ◌∷◌, take, slice_get, get_or, length, arith}
use Rattle.std.specs.List.{list_all}
use Rattle.std.specs.Option.{option_map_or}
use Rattle.escape_marks.specs.Failing.{IsFirstFailing}

pub passes_next : {X : Type 0} (p : X → Bool) (xs : List X) (k : ℕ) (d : X) → k < length xs → list_all p (take k xs) ≡ true → p (get_or xs k d) ≡ true → list_all p (take (suc k) xs) ≡ true
passes_next p [] k d h before here = absurd (omega (arith, h))
passes_next p (x ∷ xs) zero d h before here = λ j. here j && true
passes_next p (x ∷ xs) (suc k) d h before here = also (p x) before (λ b. passes_next p xs k d (omega (arith, h)) b here)
  where
    also : (a : Bool) {b c : Bool} → a && b ≡ true → (b ≡ true → c ≡ true) → a && c ≡ true
    also true e f = f e
    also false e f = e

pub fails_at : {X : Type 0} (p : X → Bool) (xs : List X) (k : ℕ) (d : X) → k < length xs → p (get_or xs k d) ≡ false → option_map_or p (slice_get xs k) true ≡ false
fails_at p [] k d h here = absurd (omega (arith, h))
fails_at p (x ∷ xs) zero d h here = here
fails_at p (x ∷ xs) (suc k) d h here = fails_at p xs k d (omega (arith, h)) here

pub first_failing : {X : Type 0} (p : X → Bool) (xs : List X) (k : ℕ) (d : X) → k < length xs → list_all p (take k xs) ≡ true → p (get_or xs k d) ≡ false → IsFirstFailing p xs k
first_failing p xs k d h before here = record { before = before; here = fails_at p xs k d h here }

-- all of what is left, as a slice to the end takes it
pub whole_rest : {X : Type 0} (k : ℕ) (xs : List X) → take (length xs - k) (drop k xs) ≡ drop k xs
whole_rest k xs = take_all (length xs - k) (drop k xs) (omega (arith, length-drop k xs))
