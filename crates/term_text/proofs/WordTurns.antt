-- The words of value terms one after another: of one more, and how many terms they are.
use Rattle.std.specs.Prelude.{◌≡◌, ◌<◌, ◌+◌, ℕ, zero, suc, List, [], ◌∷◌, ◌++◌, length, refl}
use Rattle.std.proofs.Common.{sym, ap, ◌∙◌, arith, take, get_or}
use Rattle.std.proofs.lemmas.List.{append_assoc, append-nil}
use Rattle.rule_terms.specs.Term.{ValueTerm}
use Rattle.rule_terms.specs.TermView.{terms_of}
use Rattle.term_text.specs.TermText.{term_count, value_words, terms_words}

pub count_terms : (vs : List ValueTerm) → term_count (terms_of vs) ≡ length vs
count_terms [] = refl
count_terms (v ∷ vs) = ap suc (count_terms vs)

pub words_take : (vs : List ValueTerm) (i : ℕ) (d : ValueTerm) → i < length vs → terms_words (terms_of (take (i + 1) vs)) ≡ terms_words (terms_of (take i vs)) ++ value_words (get_or vs i d)
words_take [] i d h = absurd (omega (arith, h))
words_take (v ∷ vs) zero d h = append-nil (value_words v)
words_take (v ∷ vs) (suc i) d h =
    let more : suc i + 1 ≡ suc (i + 1) = omega arith in
    ap (λ n. terms_words (terms_of (take n (v ∷ vs)))) more
    ∙ ap (λ ws. value_words v ++ ws) (words_take vs i d (omega (arith, h)))
    ∙ sym (append_assoc (value_words v) (terms_words (terms_of (take i vs))) (value_words (get_or vs i d)))
