-- Tests that all items of a list pass: one that follows from two others, and all that items lead to.
use Rattle.std.specs.Prelude.{◌≡◌, Bool, true, ◌&&◌, List, [], ◌∷◌, ◌++◌, flat_map, refl}
use Rattle.std.proofs.Common.{◌∙◌}
use Rattle.std.specs.List.{list_all}
use Rattle.std.proofs.lemmas.Bool.{and_parts}
use Rattle.std.proofs.lemmas.List.Folds.{list_all-append}

pub all_by : {X : Type 0} (p q r : X → Bool) → ((x : X) → p x ≡ true → q x ≡ true → r x ≡ true) → (xs : List X)
    → list_all p xs ≡ true → list_all q xs ≡ true → list_all r xs ≡ true
all_by p q r f [] h g = refl
all_by p q r f (x ∷ xs) h g =
    let hs : (p x ≡ true) × (list_all p xs ≡ true) = and_parts (p x) (list_all p xs) h in
    let gs : (q x ≡ true) × (list_all q xs ≡ true) = and_parts (q x) (list_all q xs) g in
    λ i. f x hs.0 gs.0 i && all_by p q r f xs hs.1 gs.1 i

pub all_so : {X : Type 0} (p r : X → Bool) → ((x : X) → p x ≡ true → r x ≡ true) → (xs : List X) → list_all p xs ≡ true → list_all r xs ≡ true
all_so p r f [] h = refl
all_so p r f (x ∷ xs) h =
    let hs : (p x ≡ true) × (list_all p xs ≡ true) = and_parts (p x) (list_all p xs) h in
    λ i. f x hs.0 i && all_so p r f xs hs.1 i

pub all_both : {X : Type 0} (p : X → Bool) (xs ys : List X) → list_all p xs ≡ true → list_all p ys ≡ true → list_all p (xs ++ ys) ≡ true
all_both p xs ys h g = list_all-append p xs ys ∙ (λ i. h i && g i)

pub all_led : {X Y : Type 0} (p : X → Bool) (q : Y → Bool) (f : X → List Y) → ((x : X) → p x ≡ true → list_all q (f x) ≡ true) → (xs : List X)
    → list_all p xs ≡ true → list_all q (flat_map f xs) ≡ true
all_led p q f g [] h = refl
all_led p q f g (x ∷ xs) h =
    let hs : (p x ≡ true) × (list_all p xs ≡ true) = and_parts (p x) (list_all p xs) h in
    list_all-append q (f x) (flat_map f xs) ∙ (λ i. g x hs.0 i && all_led p q f g xs hs.1 i)
