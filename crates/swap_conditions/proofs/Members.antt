-- An item that stands in a list, and a fact of each item.
use Rattle.std.specs.Prelude.{◌≡◌, ◌⊎◌, List, [], ◌∷◌, ◌++◌, refl}
use Rattle.std.proofs.Common.{subst, inl, inr}
use Rattle.side_conditions.specs.Each.{Each}

abbrev pub Stands : {A : Type 0} → List A → A → Type 0
Stands [] x = ⊥
Stands (y ∷ ys) x = (y ≡ x) ⊎ Stands ys x

pub of_standing : {A : Type 0} (P : A → Type 0) (xs : List A) → ((x : A) → Stands xs x → P x) → Each P xs
of_standing P [] f = tt
of_standing P (x ∷ xs) f = (f x (inl refl), of_standing P xs (λ y s. f y (inr s)))

pub at_standing : {A : Type 0} (P : A → Type 0) (xs : List A) (x : A) → Each P xs → Stands xs x → P x
at_standing P [] x h s = absurd s
at_standing P (y ∷ ys) x h (inl e) = subst P e h.0
at_standing P (y ∷ ys) x h (inr s) = at_standing P ys x h.1 s

pub stands_left : {A : Type 0} (xs ys : List A) (x : A) → Stands xs x → Stands (xs ++ ys) x
stands_left [] ys x s = absurd s
stands_left (y ∷ xs) ys x (inl e) = inl e
stands_left (y ∷ xs) ys x (inr s) = inr (stands_left xs ys x s)

pub stands_right : {A : Type 0} (xs ys : List A) (x : A) → Stands ys x → Stands (xs ++ ys) x
stands_right [] ys x s = s
stands_right (y ∷ xs) ys x s = inr (stands_right xs ys x s)
