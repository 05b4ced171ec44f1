-- The literals of a clause but one of them: in front of it and behind it.
use Rattle.std.specs.Prelude.{◌≡◌, ◌≢◌, ℕ, zero, suc, ◌+◌, ◌-◌, ◌<◌, ◌≤◌, Bool, true, false, ◌&&◌, List, [], ◌∷◌, ◌++◌, length, get_or, take, drop, refl}
use Rattle.std.specs.Option.{option_map}
use Rattle.std.proofs.Common.{sym, ap, ◌∙◌, arith}
use Rattle.std.proofs.lemmas.List.{take-map, drop-map, length-map, length-drop, length-take-le}
use Rattle.std.proofs.Math.Seq.{take-length}
use Rattle.std.proofs.lemmas.Option.{slice_get-map, slice_get-get_or, slice_get_past}
use Rattle.rule_terms.specs.declared.obligation.Literal.{Literal}
use Rattle.rule_terms.specs.declared.obligation.Obligation.{Obligation}
use Rattle.law_clauses.specs.Signed.{Signed, signed_of, all_signed, signed_same, negated}
use Rattle.law_clauses.specs.Laws.{is_clause}
use Rattle.refutations.specs.declared.refutation.Step.{Step}
use Rattle.proof_steps.specs.Cited.{fact, is_that, cited}
use Rattle.proof_steps.specs.Steps.{without, all_negated, by_law}

and_more : (a b c : Bool) → (a && (b && c)) ≡ ((a && b) && c)
and_more true b c = refl
and_more false b c = refl

and_false : (a : Bool) → (a && false) ≡ false
and_false true = refl
and_false false = refl

-- steps for the front and steps for what is behind it
cited_split : (earlier : List Step) (p : ℕ) (ks : List ℕ) (xs ys : List Signed) → length xs ≡ p → p ≤ length ks → cited earlier ks (all_negated (xs ++ ys)) ≡ (cited earlier (take p ks) (all_negated xs) && cited earlier (drop p ks) (all_negated ys))
unfolding cited all_negated
cited_split earlier zero ks [] ys e h = refl
cited_split earlier zero ks (x ∷ xs) ys e h = absurd (omega arith)
cited_split earlier (suc p) [] xs ys e h = absurd (omega arith)
cited_split earlier (suc p) (k ∷ ks) [] ys e h = absurd (omega arith)
cited_split earlier (suc p) (k ∷ ks) (x ∷ xs) ys e h =
    let f : length xs ≡ p = omega arith in
    let g : p ≤ length ks = omega arith in
    ap (λ b. is_that (fact earlier k) (negated x) && b) (cited_split earlier p ks xs ys f g)
    ∙ and_more (is_that (fact earlier k) (negated x)) (cited earlier (take p ks) (all_negated xs)) (cited earlier (drop p ks) (all_negated ys))

cited_length : (earlier : List Step) (ks : List ℕ) (xs : List Signed) → length ks ≢ length xs → cited earlier ks (all_negated xs) ≡ false
unfolding cited all_negated
cited_length earlier [] [] apart = absurd (apart refl)
cited_length earlier [] (x ∷ xs) apart = refl
cited_length earlier (k ∷ ks) [] apart = refl
cited_length earlier (k ∷ ks) (x ∷ xs) apart =
    ap (λ b. is_that (fact earlier k) (negated x) && b) (cited_length earlier ks xs (λ e. apart (ap suc e))) ∙ and_false (is_that (fact earlier k) (negated x))

without_length : (p : ℕ) (xs : List Signed) → p < length xs → suc (length (without p xs)) ≡ length xs
without_length p [] h = absurd (omega arith)
without_length zero (x ∷ xs) h = refl
without_length (suc p) (x ∷ xs) h = let less : p < length xs = omega arith in ap suc (without_length p xs less)

-- ---- lists of literals
pub other_count : (earlier : List Step) (ks : List ℕ) (clause : List Literal) (p : ℕ) → p < length clause → length ks ≢ length clause - 1 → cited earlier ks (all_negated (without p (all_signed clause))) ≡ false
other_count earlier ks clause p h apart =
    let same : length (all_signed clause) ≡ length clause = length-map clause signed_of in
    let less : p < length (all_signed clause) = omega arith in
    let one_less = without_length p (all_signed clause) less in
    cited_length earlier ks (without p (all_signed clause)) (λ e. apart (omega arith))

split_denied : (earlier : List Step) (ks : List ℕ) (clause : List Literal) (p : ℕ) → p < length clause → length ks ≡ length clause - 1
    → cited earlier ks (all_negated (without p (all_signed clause)))
    ≡ (cited earlier (take p ks) (all_negated (all_signed (take p clause))) && cited earlier (drop p ks) (all_negated (all_signed (drop (p + 1) clause))))
split_denied earlier ks clause p h e =
    let more : suc p ≡ p + 1 = omega arith in
    let front = take-map signed_of p clause in
    let behind = ap (λ n. drop n (all_signed clause)) more ∙ drop-map signed_of (p + 1) clause in
    let as_many : length (all_signed (take p clause)) ≡ p = length-map (take p clause) signed_of ∙ length-take-le p clause (omega arith) in
    let enough : p ≤ length ks = omega arith in
    ap (λ xs. cited earlier ks (all_negated xs)) (λ j. front j ++ behind j)
    ∙ cited_split earlier p ks (all_signed (take p clause)) (all_signed (drop (p + 1) clause)) as_many enough

-- a slice from a place on
from_place : {X : Type 0} (n : ℕ) (xs : List X) → take (length xs - n) (drop n xs) ≡ drop n xs
from_place n xs = ap (λ k. take k (drop n xs)) (sym (length-drop n xs)) ∙ take-length (drop n xs)

pub front_denied : (earlier : List Step) (ks : List ℕ) (clause : List Literal) (p : ℕ) → p < length clause → length ks ≡ length clause - 1 → cited earlier (take p ks) (all_negated (all_signed (take p clause))) ≡ true
    → cited earlier ks (all_negated (without p (all_signed clause)))
    ≡ cited earlier (take (length ks - p) (drop p ks)) (all_negated (all_signed (take (length clause - (p + 1)) (drop (p + 1) clause))))
front_denied earlier ks clause p h e f =
    split_denied earlier ks clause p h e
    ∙ ap (λ b. b && cited earlier (drop p ks) (all_negated (all_signed (drop (p + 1) clause)))) f
    ∙ sym (λ j. cited earlier (from_place p ks j) (all_negated (all_signed (from_place (p + 1) clause j))))

pub front_fails : (earlier : List Step) (ks : List ℕ) (clause : List Literal) (p : ℕ) → p < length clause → length ks ≡ length clause - 1 → cited earlier (take p ks) (all_negated (all_signed (take p clause))) ≡ false
    → cited earlier ks (all_negated (without p (all_signed clause))) ≡ false
front_fails earlier ks clause p h e f = split_denied earlier ks clause p h e ∙ ap (λ b. b && cited earlier (drop p ks) (all_negated (all_signed (drop (p + 1) clause)))) f

pub by_law_past : (ob : Obligation) (earlier : List Step) (k : ℕ) (clause : List Literal) (p : ℕ) (from : List ℕ) (x : Signed) → length clause ≤ p → by_law ob earlier k (all_signed clause) p from x ≡ false
unfolding by_law
by_law_past ob earlier k clause p from x h =
    ap (λ o. is_clause ob k (all_signed clause) && (is_that o x && cited earlier from (all_negated (without p (all_signed clause))))) (slice_get-map signed_of clause p ∙ ap (option_map signed_of) (slice_get_past clause p h))
    ∙ and_false (is_clause ob k (all_signed clause))

at_place : (ob : Obligation) (earlier : List Step) (k : ℕ) (clause : List Literal) (p : ℕ) (from : List ℕ) (x : Signed) (d : Literal) (b : Bool) → p < length clause → signed_same (signed_of (get_or clause p d)) x ≡ b
    → by_law ob earlier k (all_signed clause) p from x ≡ (is_clause ob k (all_signed clause) && (b && cited earlier from (all_negated (without p (all_signed clause)))))
unfolding by_law
at_place ob earlier k clause p from x d b h e =
    let others = cited earlier from (all_negated (without p (all_signed clause))) in
    ap (λ o. is_clause ob k (all_signed clause) && (is_that o x && others)) (slice_get-map signed_of clause p ∙ ap (option_map signed_of) (slice_get-get_or clause p d h))
    ∙ ap (λ c. is_clause ob k (all_signed clause) && (c && others)) e

pub by_law_at : (ob : Obligation) (earlier : List Step) (k : ℕ) (clause : List Literal) (p : ℕ) (from : List ℕ) (x : Signed) (d : Literal) → p < length clause → signed_same (signed_of (get_or clause p d)) x ≡ true
    → by_law ob earlier k (all_signed clause) p from x ≡ (is_clause ob k (all_signed clause) && cited earlier from (all_negated (without p (all_signed clause))))
by_law_at ob earlier k clause p from x d h e = at_place ob earlier k clause p from x d true h e

pub by_law_other : (ob : Obligation) (earlier : List Step) (k : ℕ) (clause : List Literal) (p : ℕ) (from : List ℕ) (x : Signed) (d : Literal) → p < length clause → signed_same (signed_of (get_or clause p d)) x ≡ false
    → by_law ob earlier k (all_signed clause) p from x ≡ false
by_law_other ob earlier k clause p from x d h e = at_place ob earlier k clause p from x d false h e ∙ and_false (is_clause ob k (all_signed clause))
