-- Members of lists, said by recursion here; `Contains` says it by place.
use Rattle.std.specs.Prelude.{◌≡◌, ℕ, zero, suc, ◌<◌, List, [], ◌∷◌, ◌++◌, length, Contains}
use Rattle.std.proofs.Common.{arith, get_or, ◌⊎◌, inl, inr}

module _ {X : Type 0} where
  abbrev pub In : X → List X → Type 0
  In x [] = ⊥
  In x (y ∷ ys) = (y ≡ x) ⊎ In x ys

  pub in_place : (xs : List X) (x : X) (k : ℕ) → k < length xs → get_or xs k x ≡ x → In x xs
  in_place [] x k h e = absurd (omega arith)
  in_place (y ∷ ys) x zero h e = inl e
  in_place (y ∷ ys) x (suc k) h e = inr (in_place ys x k (omega arith) e)

  pub in_from : (xs : List X) (x : X) → Contains xs x → In x xs
  in_from xs x c = in_place xs x c.0 c.1 c.2

  pub from_in : (xs : List X) (x : X) → In x xs → Contains xs x
  from_in [] x h = elim h [ ]
  from_in (y ∷ ys) x (inl e) = (0, (omega arith), e)
  from_in (y ∷ ys) x (inr h) = let c : Contains ys x = from_in ys x h in (suc c.0, (omega (arith, c.1)), c.2)

  pub in_left : (xs ys : List X) (x : X) → In x xs → In x (xs ++ ys)
  in_left [] ys x h = elim h [ ]
  in_left (z ∷ zs) ys x (inl e) = inl e
  in_left (z ∷ zs) ys x (inr h) = inr (in_left zs ys x h)

  pub in_right : (xs ys : List X) (x : X) → In x ys → In x (xs ++ ys)
  in_right [] ys x h = h
  in_right (z ∷ zs) ys x h = inr (in_right zs ys x h)

  pub in_either : (xs ys : List X) (x : X) → In x (xs ++ ys) → In x xs ⊎ In x ys
  in_either [] ys x h = inr h
  in_either (z ∷ zs) ys x (inl e) = inl (inl e)
  in_either (z ∷ zs) ys x (inr h) = elim (in_either zs ys x h) [ inl a ↦ inl (inr a) | inr b ↦ inr b ]
