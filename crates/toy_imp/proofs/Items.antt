-- Short lists by their items: one, two, and three or more.
use Rattle.std.proofs.Common.{◌≡◌, ◌<◌, ◌≤◌, List, [], ◌∷◌, length, get_or, drop, arith}

pub one_item : {A : Type 0} (s : List A) (a : A) → 1 ≤ length s → length s < 2 → a ≡ get_or s 0 a → s ≡ a ∷ []
one_item [] a low high p = absurd (omega arith)
one_item (x ∷ []) a low high p = cc
one_item (x ∷ y ∷ s) a low high p = absurd (omega arith)

pub two_items : {A : Type 0} (s : List A) (a b : A) → 2 ≤ length s → length s < 3 → a ≡ get_or s 0 a → b ≡ get_or s 1 b → s ≡ a ∷ b ∷ []
two_items [] a b low high p q = absurd (omega arith)
two_items (x ∷ []) a b low high p q = absurd (omega arith)
two_items (x ∷ y ∷ []) a b low high p q = cc
two_items (x ∷ y ∷ z ∷ s) a b low high p q = absurd (omega arith)

pub three_items : {A : Type 0} (s : List A) (a b c : A) → 3 ≤ length s → a ≡ get_or s 0 a → b ≡ get_or s 1 b → c ≡ get_or s 2 c → s ≡ a ∷ b ∷ c ∷ drop 3 s
three_items [] a b c low p q r = absurd (omega arith)
three_items (x ∷ []) a b c low p q r = absurd (omega arith)
three_items (x ∷ y ∷ []) a b c low p q r = absurd (omega arith)
three_items (x ∷ y ∷ z ∷ s) a b c low p q r = cc
