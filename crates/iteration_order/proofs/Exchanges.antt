-- The exchange law: the first item of the new order is brought to the front past all that stood before it, and so on with the rest.
-- Each step past an item is an exchange of two blocks whose order is reversed.
use Rattle.std.specs.Prelude.{◌≡◌, ◌⊎◌, List, [], ◌∷◌, ◌++◌, refl}
use Rattle.std.proofs.Common.{sym, ap, subst, inl, inr}
use Rattle.toy_imp.specs.Block.{Block, append}
use Rattle.toy_imp.specs.Ends.{Same}
use Rattle.toy_imp.proofs.Alikes.{same_self, same_chain, parts_replaced, append-assoc}
use Rattle.iteration_order.specs.Exchange.{joined, Swap, Exchange}
use Rattle.iteration_order.proofs.Standing.{Stands, Before, Once, stands, contains, precedes, once, stands_wide, stands_left, stands_cases, not_twice, once_rest, before_wide, before_mid, Split, split}

same_equal : (p q : Block) → p ≡ q → Same p q
same_equal p q e = subst (λ b. Same p b) e (same_self p)

-- two blocks that end alike in both orders, in front of a third
swap_front : (p q c : Block) → Swap p q → Same (append p (append q c)) (append q (append p c))
swap_front p q c s =
    same_chain _ _ _ (same_equal _ _ (sym (append-assoc p q c)))
    (same_chain _ _ _ (parts_replaced (append p q) (append q p) c c s.same (same_self c)) (same_equal _ _ (append-assoc q p c)))

module _ {A : Type 0} (block : A → Block) where
  -- a block comes to the front past blocks that it swaps with
  to_front : (front : List A) (y : A) (rear : List A) → ((x : A) → Stands front x → Swap (block x) (block y)) →
      Same (joined block (front ++ y ∷ rear)) (append (block y) (joined block (front ++ rear)))
  to_front [] y rear swaps = same_self _
  to_front (x ∷ front) y rear swaps =
      same_chain _ _ _ (parts_replaced (block x) (block x) _ _ (same_self (block x)) (to_front front y rear (λ z s. swaps z (inr s))))
      (swap_front (block x) (block y) (joined block (front ++ rear)) (swaps x (inl refl)))

  -- what the law is given, by recursion on the lists
  record Given (xs ys : List A) : Type 0 where
    once_here : Once xs
    once_there : Once ys
    there : (x : A) → Stands xs x → Stands ys x
    back : (x : A) → Stands ys x → Stands xs x
    swap : (x y : A) → Before xs x y → Before ys y x → Swap (block x) (block y)

  module _ (front : List A) (y : A) (rear ys : List A) (g : Given (front ++ y ∷ rear) (y ∷ ys)) where
    others_there : (x : A) → Stands (front ++ rear) x → (y ≡ x) ⊎ Stands ys x → Stands ys x
    others_there x s (inl e) = absurd (not_twice y rear front g.once_here (subst (λ a. Stands (front ++ rear) a) (sym e) s))
    others_there x s (inr t) = t

    others_back : (x : A) → Stands ys x → (y ≡ x) ⊎ Stands (front ++ rear) x → Stands (front ++ rear) x
    others_back x t (inl e) = absurd (g.once_there.0 (subst (λ a. Stands ys a) (sym e) t))
    others_back x t (inr s) = s

    others : Given (front ++ rear) ys
    others = record {
      once_here = once_rest y rear front g.once_here;
      once_there = g.once_there.1;
      there = λ x s. others_there x s (g.there x (stands_wide y rear front x s));
      back = λ x t. others_back x t (stands_cases y rear front x (g.back x (inr t)));
      swap = λ a b p q. g.swap a b (before_wide y rear front a b p) (inr q);
    }

    front_swaps : (x : A) → Stands front x → Swap (block x) (block y)
    front_swaps x s =
        let t : Stands ys x = others.there x (stands_left y rear front x s) in
        g.swap x y (before_mid y rear front x s) (inl (refl, t))

  exchanged : (ys xs : List A) → Given xs ys → Same (joined block xs) (joined block ys)
  exchanged [] [] g = same_self _
  exchanged [] (x ∷ xs) g = absurd (g.there x (inl refl))
  exchanged (y ∷ ys) xs g =
      let parts : Split xs y = split xs y (g.back y (inl refl)) in
      let moved : Given (parts.front ++ y ∷ parts.rear) (y ∷ ys) = subst (λ l. Given l (y ∷ ys)) parts.is g in
      same_chain _ _ _ (same_equal _ _ (ap (joined block) parts.is))
      (same_chain _ _ _ (to_front parts.front y parts.rear (front_swaps parts.front y parts.rear ys moved))
      (parts_replaced (block y) (block y) _ _ (same_self (block y)) (exchanged ys (parts.front ++ parts.rear) (others parts.front y parts.rear ys moved))))

-- the law as it is stated, by places
pub exchange : (A : Type 0) → Exchange A
exchange A block xs ys reordering swaps = exchanged block ys xs (record {
  once_here = once xs reordering.once;
  once_there = once ys reordering.once_there;
  there = λ x s. stands ys x (reordering.there x (contains xs x s));
  back = λ x t. stands xs x (reordering.back x (contains ys x t));
  swap = λ x y p q. swaps.swap x y (precedes xs x y p) (precedes ys y x q);
})
