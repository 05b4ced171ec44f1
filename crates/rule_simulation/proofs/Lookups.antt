-- What looking into lists finds.
use Rattle.std.specs.Prelude.{◌≡◌, ℕ, zero, suc, Bool, true, false, cond, ◌&&◌, List, [], ◌∷◌, take, Some, slice_get, find, refl}
use Rattle.std.specs.List.{list_all}
use Rattle.std.proofs.Common.{sym, ◌∙◌, ap}
use Rattle.std.proofs.lemmas.Bool.{and_parts}

-- an item that passes stands somewhere
pub record Picked {X : Type 0} (q : X → Bool) (xs : List X) (x : X) : Type 0 where
  pub number : ℕ
  pub there : slice_get xs number ≡ Some x
  pub passes : q x ≡ true

later : {X : Type 0} (q : X → Bool) (y : X) (xs : List X) (x : X) → Picked q xs x → Picked q (y ∷ xs) x
later q y xs x p = record { number = suc p.number; there = p.there; passes = p.passes }

found_by : {X : Type 0} (q : X → Bool) (y : X) (xs : List X) (x : X) (b : Bool) → q y ≡ b → cond b (Some y) (find q xs) ≡ Some x → (find q xs ≡ Some x → Picked q xs x) → Picked q (y ∷ xs) x
found_by q y xs x true passes_it e on =
    let same : y ≡ x = cc in
    record { number = 0; there = ap Some same; passes = ap q (sym same) ∙ passes_it }
found_by q y xs x false fails_it e on = later q y xs x (on e)

pub found : {X : Type 0} (q : X → Bool) (xs : List X) (x : X) → find q xs ≡ Some x → Picked q xs x
found q [] x e = cc
found q (y ∷ xs) x e = found_by q y xs x (q y) refl e (found q xs x)

-- the first of items that pass pass
pub all_take : {X : Type 0} (q : X → Bool) (n : ℕ) (xs : List X) → list_all q xs ≡ true → list_all q (take n xs) ≡ true
all_take q zero xs h = refl
all_take q (suc n) [] h = refl
all_take q (suc n) (x ∷ xs) h =
    let p = and_parts (q x) (list_all q xs) h in
    λ j. p.0 j && all_take q n xs p.1 j
