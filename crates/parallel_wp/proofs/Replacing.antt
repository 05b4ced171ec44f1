-- Lists with stores in place of L and R, one item after another.
use Rattle.std.proofs.Common.{◌≡◌, ◌≤◌, ℕ, List, [], ◌∷◌, map, take, length, refl, ap, ◌∙◌}
use Rattle.std.proofs.lemmas.List.{take_all}
use Rattle.rule_terms.specs.Term.{StoreTerm, ValueTerm, term}
use Rattle.rule_terms.specs.TermView.{terms_of}
use Rattle.rule_terms.specs.Substitute.{value_term_at, terms_at}

terms_replaced : (l r : StoreTerm) (vs : List ValueTerm) → terms_of (map (value_term_at l r) vs) ≡ terms_at l r (terms_of vs)
unfolding terms_at
terms_replaced l r [] = refl
terms_replaced l r (v ∷ vs) = ap (term (value_term_at l r v)) (terms_replaced l r vs)

-- all of a list, one after another
pub all_replaced : (l r : StoreTerm) (vs put : List ValueTerm) (k : ℕ) → length vs ≤ k → put ≡ map (value_term_at l r) (take k vs) → terms_of put ≡ terms_at l r (terms_of vs)
all_replaced l r vs put k h e = ap terms_of (e ∙ ap (map (value_term_at l r)) (take_all k vs h)) ∙ terms_replaced l r vs
