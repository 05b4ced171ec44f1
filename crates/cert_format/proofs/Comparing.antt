-- Lists of tokens that are compared from the front.
use Rattle.std.specs.Prelude.{◌≡◌, ◌≢◌, List, [], ◌∷◌}
use Rattle.std.proofs.Common.{ap}
use Rattle.word_text.specs.declared.token.Token.{Token}

abbrev head_of : Token → List Token → Token
head_of t [] = t
head_of t (x ∷ xs) = x

abbrev tail_of : List Token → List Token
tail_of [] = []
tail_of (x ∷ xs) = xs

pub same_heads : (x y : Token) (xs ys : List Token) → x ≡ y → (xs ≡ ys → x ∷ xs ≡ y ∷ ys) × (x ∷ xs ≡ y ∷ ys → xs ≡ ys)
same_heads x y xs ys h = (λ e i. h i ∷ e i, λ e. ap tail_of e)

pub other_heads : (x y : Token) (xs ys : List Token) → x ≢ y → x ∷ xs ≢ y ∷ ys
other_heads x y xs ys h e = h (ap (head_of x) e)
