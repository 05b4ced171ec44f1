-- Value terms that are read one after another: those that were found stand in front of what is read next.
use Rattle.std.specs.Prelude.{◌≡◌, ◌<◌, ◌≤◌, ◌-◌, ◌+◌, ℕ, suc, List, [], ◌∷◌, ◌++◌, Option, Some, None, refl}
use Rattle.std.proofs.Common.{sym, ap, ◌∙◌, arith}
use Rattle.rule_terms.specs.Term.{ValueTerm, ValueTerms, no_terms, term}
use Rattle.rule_terms.specs.TermView.{terms_of}
use Rattle.word_text.specs.declared.token.Token.{Token}
use Rattle.term_text.specs.TermReading.{Read, then_read, terms_read}

-- the terms of a list in front of others
abbrev pub behind : List ValueTerm → ValueTerms → ValueTerms
behind [] vs = vs
behind (v ∷ found) vs = term v (behind found vs)

abbrev pub with_found : List ValueTerm → Option (ValueTerms × List Token) → Option (ValueTerms × List Token)
with_found found r = then_read r (λ vs rest. Some (behind found vs, rest))

pub behind_none : (found : List ValueTerm) → behind found no_terms ≡ terms_of found
behind_none [] = refl
behind_none (v ∷ found) = ap (term v) (behind_none found)

behind_one : (found : List ValueTerm) (v : ValueTerm) (vs : ValueTerms) → behind (found ++ v ∷ []) vs ≡ behind found (term v vs)
behind_one [] v vs = refl
behind_one (w ∷ found) v vs = ap (term w) (behind_one found v vs)

with_one : (found : List ValueTerm) (v : ValueTerm) (r : Option (ValueTerms × List Token)) → with_found (found ++ v ∷ []) r ≡ with_found found (then_read r (λ vs rest. Some (term v vs, rest)))
with_one found v None = refl
with_one found v (Some p) = ap (λ vs. Some (vs, p.1)) (behind_one found v p.0)

pub with_none : (r : Option (ValueTerms × List Token)) → with_found [] r ≡ r
with_none None = refl
with_none (Some p) = refl

one_less : (end turn : ℕ) → turn < end → end - turn ≡ suc (end - (turn + 1))
one_less end turn h = omega (arith, h)

-- a term more
pub turn_found : (value : Read ValueTerm) (found : List ValueTerm) (v : ValueTerm) (end turn : ℕ) (rest after : List Token) (all : Option (ValueTerms × List Token)) → turn < end
    → with_found found (terms_read value (end - turn) rest) ≡ all → value rest ≡ Some (v, after) → with_found (found ++ v ∷ []) (terms_read value (end - (turn + 1)) after) ≡ all
unfolding terms_read
turn_found value found v end turn rest after all h so read =
    with_one found v (terms_read value (end - (turn + 1)) after)
    ∙ ap (λ r. with_found found (then_read r (λ w more. then_read (terms_read value (end - (turn + 1)) more) (λ vs rest. Some (term w vs, rest))))) (sym read)
    ∙ ap (λ n. with_found found (terms_read value n rest)) (sym (one_less end turn h))
    ∙ so

-- no term
pub turn_none : (value : Read ValueTerm) (found : List ValueTerm) (end turn : ℕ) (rest : List Token) (all : Option (ValueTerms × List Token)) → turn < end
    → with_found found (terms_read value (end - turn) rest) ≡ all → value rest ≡ None → all ≡ None
unfolding terms_read
turn_none value found end turn rest all h so read =
    sym so
    ∙ ap (λ n. with_found found (terms_read value n rest)) (one_less end turn h)
    ∙ ap (λ r. with_found found (then_read r (λ w more. then_read (terms_read value (end - (turn + 1)) more) (λ vs rest. Some (term w vs, rest))))) read

-- all terms
pub turn_last : (value : Read ValueTerm) (found : List ValueTerm) (end turn : ℕ) (rest : List Token) (all : Option (ValueTerms × List Token)) → end ≤ turn
    → with_found found (terms_read value (end - turn) rest) ≡ all → all ≡ Some (terms_of found, rest)
unfolding terms_read
turn_last value found end turn rest all h so =
    let none : end - turn ≡ 0 = omega (arith, h) in
    sym so ∙ ap (λ n. with_found found (terms_read value n rest)) none ∙ ap (λ vs. Some (vs, rest)) (behind_none found)
