-- The words of things one after another: of one more.
use Rattle.std.specs.Prelude.{◌≡◌, ◌<◌, ◌+◌, ℕ, zero, suc, List, [], ◌∷◌, ◌++◌, length}
use Rattle.std.specs.List.{flat_map}
use Rattle.std.proofs.Common.{sym, ap, ◌∙◌, arith, take, get_or, append_assoc, append-nil}
use Rattle.word_text.specs.declared.token.Token.{Token}

pub flat_take : {X : Type 0} (words : X → List Token) (xs : List X) (i : ℕ) (d : X) → i < length xs → flat_map words (take (i + 1) xs) ≡ flat_map words (take i xs) ++ words (get_or xs i d)
flat_take words [] i d h = absurd (omega (arith, h))
flat_take words (x ∷ xs) zero d h = append-nil (words x)
flat_take words (x ∷ xs) (suc i) d h =
    let more : suc i + 1 ≡ suc (i + 1) = omega arith in
    ap (λ n. flat_map words (take n (x ∷ xs))) more
    ∙ ap (λ ws. words x ++ ws) (flat_take words xs i d (omega (arith, h)))
    ∙ sym (append_assoc (words x) (flat_map words (take i xs)) (words (get_or xs i d)))

-- a thing more behind what was put
pub put_more : {X : Type 0} (words : X → List Token) (old : List Token) (xs : List X) (i : ℕ) (d : X) (put more : List Token) → i < length xs → put ≡ old ++ flat_map words (take i xs)
    → more ≡ put ++ words (get_or xs i d) → more ≡ old ++ flat_map words (take (i + 1) xs)
put_more words old xs i d put more h so is =
    is
    ∙ ap (λ ts. ts ++ words (get_or xs i d)) so
    ∙ append_assoc old (flat_map words (take i xs)) (words (get_or xs i d))
    ∙ ap (λ ts. old ++ ts) (sym (flat_take words xs i d h))
