-- Lists of literals that are as long as others, and what a refutation starts from, in parts.
use Rattle.std.specs.Prelude.{◌≡◌, ◌≢◌, ℕ, suc, Bool, true, false, ◌&&◌, ◌||◌, List, [], ◌∷◌, ◌++◌, length, refl}
use Rattle.std.proofs.Common.{ap, ◌∙◌}
use Rattle.std.specs.List.{list_any}
use Rattle.rule_terms.specs.declared.obligation.Obligation.{Obligation}
use Rattle.rule_terms.specs.declared.obligation.Literal.{Literal}
use Rattle.law_clauses.specs.Signed.{Signed, all_signed, signed_of, signed_same, negated}
use Rattle.law_clauses.proofs.Same.{or_more}
use Rattle.refutations.specs.declared.refutation.Step.{Step}
use Rattle.proof_steps.specs.Cited.{fact, is_that, cited}
use Rattle.proof_steps.specs.Steps.{is_given, all_negated}
use Rattle.proof_steps.specs.Refutes.{denied, given_first, given_at}

and_not : (p q : Bool) → q ≡ false → (p && q) ≡ false
and_not true q f = f
and_not false q f = refl

-- another number of steps than of literals
pub cited_count : (earlier : List Step) (ks : List ℕ) (xs : List Literal) → length ks ≢ length xs → cited earlier ks (all_signed xs) ≡ false
unfolding cited
cited_count earlier [] [] apart = absurd (apart refl)
cited_count earlier [] (x ∷ xs) apart = refl
cited_count earlier (k ∷ ks) [] apart = refl
cited_count earlier (k ∷ ks) (x ∷ xs) apart = and_not (is_that (fact earlier k) (signed_of x)) (cited earlier ks (all_signed xs)) (cited_count earlier ks xs (λ e. apart (ap suc e)))

pub denied_count : (earlier : List Step) (ks : List ℕ) (xs : List Literal) → length ks ≢ length xs → cited earlier ks (all_negated (all_signed xs)) ≡ false
unfolding cited all_negated
denied_count earlier [] [] apart = absurd (apart refl)
denied_count earlier [] (x ∷ xs) apart = refl
denied_count earlier (k ∷ ks) [] apart = refl
denied_count earlier (k ∷ ks) (x ∷ xs) apart =
    and_not (is_that (fact earlier k) (negated (signed_of x))) (cited earlier ks (all_negated (all_signed xs))) (denied_count earlier ks xs (λ e. apart (ap suc e)))

-- ---- what a refutation starts from
pub any_append : (test : Signed → Bool) (xs ys : List Signed) → list_any test (xs ++ ys) ≡ (list_any test xs || list_any test ys)
any_append test [] ys = refl
any_append test (x ∷ xs) ys = ap (λ b. test x || b) (any_append test xs ys) ∙ or_more (test x) (list_any test xs) (list_any test ys)

or_exchanged : (a b : Bool) → (a || b) ≡ (b || a)
or_exchanged true true = refl
or_exchanged true false = refl
or_exchanged false true = refl
or_exchanged false false = refl

-- the few that are given first are looked at before all that is assumed
pub given_either : (ob : Obligation) (assumed : List Signed) (x : Signed) → is_given (given_at ob assumed) x ≡ (is_given (given_first ob) x || list_any (signed_same x) assumed)
given_either ob assumed x = any_append (signed_same x) assumed (given_first ob) ∙ or_exchanged (list_any (signed_same x) assumed) (is_given (given_first ob) x)

pub given_parts : (ob : Obligation) (x : Signed) → is_given (given_first ob) x
    ≡ (list_any (signed_same x) (all_signed ob.path) || (list_any (signed_same x) (all_signed ob.goal.when) || list_any (signed_same x) (denied ob.goal.gives)))
given_parts ob x =
    any_append (signed_same x) (all_signed ob.path) (all_signed ob.goal.when ++ denied ob.goal.gives)
    ∙ ap (λ b. list_any (signed_same x) (all_signed ob.path) || b) (any_append (signed_same x) (all_signed ob.goal.when) (denied ob.goal.gives))
