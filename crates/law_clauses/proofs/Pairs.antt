-- Lists of value terms and the indices that they are, one beside the other.
use Rattle.std.specs.Prelude.{◌≡◌, ◌≢◌, ℕ, zero, suc, ◌-◌, ◌<◌, ◌≤◌, Bool, true, false, ◌&&◌, List, [], ◌∷◌, length, get_or, take, Some, refl}
use Rattle.std.proofs.Common.{ap, drop, arith}
use Rattle.std.proofs.lemmas.List.{drop_all}
use Rattle.rule_terms.specs.Term.{ValueTerm, ValueTerms, no_terms, term}
use Rattle.rule_terms.specs.TermView.{terms_of}
use Rattle.rule_terms.specs.declared.obligation.Literal.{Literal}
use Rattle.rule_terms.specs.declared.obligation.Atom.TheVariants.{SameValue}
use Rattle.term_meaning.specs.Indices.{count}
use Rattle.law_clauses.specs.Signed.{minus, signed_of, all_signed, signed_same, all_same}
use Rattle.law_clauses.specs.WriteLaws.{conclusion, negated_conditions, unequal, read_back, law_1, index_pair}

pub count_terms : (vs : List ValueTerm) → count (terms_of vs) ≡ length vs
count_terms [] = refl
count_terms (v ∷ vs) = ap suc (count_terms vs)

-- where one of two lists is used up there is no pair
no_first : (a b : ValueTerm) (ws : ValueTerms) → index_pair a b no_terms ws ≡ false
unfolding index_pair
no_first a b no_terms = refl
no_first a b (term w ws) = refl

no_second : (a b : ValueTerm) (vs : ValueTerms) → index_pair a b vs no_terms ≡ false
unfolding index_pair
no_second a b no_terms = refl
no_second a b (term v vs) = refl

pub first_used : (a b : ValueTerm) (js : List ValueTerm) (i : ℕ) (ws : ValueTerms) → length js ≤ i → index_pair a b (terms_of (drop i js)) ws ≡ false
first_used a b js i ws h = rw (drop_all i js h) (no_first a b ws)

pub second_used : (a b : ValueTerm) (vs : ValueTerms) (is : List ValueTerm) (i : ℕ) → length is ≤ i → index_pair a b vs (terms_of (drop i is)) ≡ false
second_used a b vs is i h = rw (drop_all i is h) (no_second a b vs)

-- another number of literals than of indices
pub other_number : (xs : List Literal) (js is : List ValueTerm) → length js ≡ length is → length xs ≢ length js → all_same (all_signed xs) (unequal (terms_of js) (terms_of is)) ≡ false
unfolding all_same unequal
other_number [] [] is e apart = absurd (apart refl)
other_number [] (v ∷ vs) [] e apart = absurd (omega arith)
other_number [] (v ∷ vs) (w ∷ ws) e apart = refl
other_number (x ∷ xs) [] [] e apart = refl
other_number (x ∷ xs) [] (w ∷ ws) e apart = refl
other_number (x ∷ xs) (v ∷ vs) [] e apart = absurd (omega arith)
other_number (x ∷ xs) (v ∷ vs) (w ∷ ws) e apart =
    let more : length vs ≡ length ws = omega arith in
    and_not (signed_same (signed_of x) (minus (SameValue v w))) (all_same (all_signed xs) (unequal (terms_of vs) (terms_of ws))) (other_number xs vs ws more (λ f. apart (ap suc f)))
  where
    and_not : (p q : Bool) → q ≡ false → (p && q) ≡ false
    and_not true q f = f
    and_not false q f = refl

-- a clause by its last literal and those before
pub conclusion_is : (xs : List Literal) (d : Literal) (k : ℕ) → suc k ≡ length xs → conclusion (all_signed xs) ≡ Some (signed_of (get_or xs k d))
conclusion_is [] d k e = absurd (omega arith)
conclusion_is (x ∷ []) d zero e = refl
conclusion_is (x ∷ []) d (suc k) e = absurd (omega arith)
conclusion_is (x ∷ y ∷ ys) d zero e = absurd (omega arith)
conclusion_is (x ∷ y ∷ ys) d (suc k) e = let more : suc k ≡ length (y ∷ ys) = omega arith in conclusion_is (y ∷ ys) d k more

pub conditions_are : (xs : List Literal) (k : ℕ) → suc k ≡ length xs → negated_conditions (all_signed xs) ≡ all_signed (take k xs)
conditions_are [] k e = absurd (omega arith)
conditions_are (x ∷ []) zero e = refl
conditions_are (x ∷ []) (suc k) e = absurd (omega arith)
conditions_are (x ∷ y ∷ ys) zero e = absurd (omega arith)
conditions_are (x ∷ y ∷ ys) (suc k) e = let more : suc k ≡ length (y ∷ ys) = omega arith in ap (λ zs. signed_of x ∷ zs) (conditions_are (y ∷ ys) k more)

pub law_1_parts : (xs : List Literal) (d : Literal) → 0 < length xs → law_1 (all_signed xs) ≡ read_back (Some (signed_of (get_or xs (length xs - 1) d))) (all_signed (take (length xs - 1) xs))
unfolding law_1
law_1_parts xs d h =
    let e : suc (length xs - 1) ≡ length xs = omega arith in
    λ j. read_back (conclusion_is xs d (length xs - 1) e j) (conditions_are xs (length xs - 1) e j)

pub law_1_none : (xs : List Literal) → length xs ≡ 0 → law_1 (all_signed xs) ≡ false
unfolding law_1 read_back
law_1_none [] e = refl
law_1_none (x ∷ xs) e = absurd (omega arith)
