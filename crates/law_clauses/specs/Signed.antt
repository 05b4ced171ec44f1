-- A literal as an atom behind its sign, and equality of atoms and literals as a test.
use Rattle.std.specs.Prelude.{Bool, true, false, ◌==◌, ◌&&◌, List, [], ◌∷◌, map}
use Rattle.std.specs.Ordering.{int_eq}
use Rattle.rule_terms.specs.Order.{store_same, value_same}
use Rattle.rule_terms.specs.declared.obligation.Atom.{Atom}
use Rattle.rule_terms.specs.declared.obligation.Atom.TheVariants.{SameName, SameStore, SameValue, AtMost, Ends, Holds}
use Rattle.rule_terms.specs.declared.obligation.Literal.{Literal}

pub data Signed : Type 0 where
  plus : Atom → Signed
  minus : Atom → Signed

abbrev pub with_sign : Bool → Atom → Signed
with_sign true a = plus a
with_sign false a = minus a

abbrev pub signed_of : Literal → Signed
signed_of x = with_sign x.sign x.atom

abbrev pub two_signed : Literal → Literal → List Signed
two_signed x y = signed_of x ∷ signed_of y ∷ []

abbrev pub three_signed : Literal → Literal → Literal → List Signed
three_signed x y z = signed_of x ∷ signed_of y ∷ signed_of z ∷ []

abbrev pub all_signed : List Literal → List Signed
all_signed xs = map signed_of xs

abbrev pub negated : Signed → Signed
negated (plus a) = minus a
negated (minus a) = plus a

unfoldable pub atom_same : Atom → Atom → Bool
atom_same (SameName x y) (SameName z w) = x == z && y == w
atom_same (SameStore a b) (SameStore c d) = store_same a c && store_same b d
atom_same (SameValue a b) (SameValue c d) = value_same a c && value_same b d
atom_same (AtMost a b x) (AtMost c d y) = int_eq x y && (value_same a c && value_same b d)
atom_same (Ends s) (Ends t) = store_same s t
atom_same (Holds j s) (Holds k t) = j == k && store_same s t
atom_same _ _ = false

unfoldable pub signed_same : Signed → Signed → Bool
signed_same (plus a) (plus b) = atom_same a b
signed_same (plus a) (minus b) = false
signed_same (minus a) (plus b) = false
signed_same (minus a) (minus b) = atom_same a b

-- the same literals, one for one
unfoldable pub all_same : List Signed → List Signed → Bool
all_same [] [] = true
all_same [] (y ∷ ys) = false
all_same (x ∷ xs) [] = false
all_same (x ∷ xs) (y ∷ ys) = signed_same x y && all_same xs ys
