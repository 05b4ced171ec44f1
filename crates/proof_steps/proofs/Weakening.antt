-- A refutation under some assumptions is one under more, and two refuted branches make a refuted split.
use Rattle.std.specs.Prelude.{◌≡◌, true, ◌||◌, List, [], ◌∷◌, ◌++◌}
use Rattle.std.proofs.Common.{sym, ◌∙◌, inl, inr}
use Rattle.std.proofs.lemmas.Bool.{and_parts, and_from, or_cases, or_left, or_right}
use Rattle.rule_terms.specs.declared.obligation.Literal.{Literal}
use Rattle.rule_terms.specs.declared.obligation.Obligation.{Obligation}
use Rattle.law_clauses.specs.Signed.{Signed, signed_of, negated, signed_same}
use Rattle.refutations.specs.declared.refutation.By.{By}
use Rattle.refutations.specs.declared.refutation.By.TheVariants.{Given}
use Rattle.refutations.specs.declared.refutation.Step.{Step}
use Rattle.refutations.specs.Refutation.{Refutation, split, leaf}
use Rattle.proof_steps.specs.Steps.{is_given, follows, is_shallow, reason_is_shallow, step_holds}
use Rattle.proof_steps.specs.Refutes.{given_first, given_at, leaf_closes, refutes_under}
use Rattle.proof_steps.specs.RefuteLaws.{Included}
use Rattle.proof_steps.proofs.Lists.{any_append}

included_one_more : (y : Signed) (xs ys : List Signed) → Included xs ys → Included (y ∷ xs) (y ∷ ys)
included_one_more y xs ys inc x e =
    elim (or_cases (signed_same x y) (is_given xs x) e) as (λ _. is_given (y ∷ ys) x ≡ true) [
      | inl h ↦ or_left _ _ h
      | inr h ↦ or_right _ _ (inc x h)
    ]

included_in_front : (xs ys zs : List Signed) → Included xs ys → Included (xs ++ zs) (ys ++ zs)
included_in_front xs ys zs inc x e =
    any_append (signed_same x) ys zs
    ∙ elim (or_cases (is_given xs x) (is_given zs x) (sym (any_append (signed_same x) xs zs) ∙ e)) as (λ _. (is_given ys x || is_given zs x) ≡ true) [
      | inl h ↦ or_left _ _ (inc x h)
      | inr h ↦ or_right _ _ h
    ]

module _ (ob : Obligation) where
  follows_more : (g h : List Signed) → Included g h → (earlier : List Step) (why : By) (x : Signed) → follows ob g earlier why x ≡ true → follows ob h earlier why x ≡ true
  follows_more g h inc earlier Given x e = inc x e
  follows_more g h inc earlier _ x e = e

  pub step_more : (g h : List Signed) → Included g h → (earlier : List Step) (s : Step) → step_holds ob g earlier s ≡ true → step_holds ob h earlier s ≡ true
  unfolding step_holds
  step_more g h inc earlier s e =
      let p = and_parts (is_shallow s.gives) _ e in
      let q = and_parts (reason_is_shallow s.by) _ p.1 in
      and_from _ _ p.0 (and_from _ _ q.0 (follows_more g h inc earlier s.by (signed_of s.gives) q.1))

  leaf_more : (g h : List Signed) → Included g h → (steps earlier : List Step) → leaf_closes ob g earlier steps ≡ true → leaf_closes ob h earlier steps ≡ true
  unfolding leaf_closes
  leaf_more g h inc [] earlier e = e
  leaf_more g h inc (s ∷ []) earlier e =
      let p = and_parts (step_holds ob g earlier s) _ e in
      and_from _ _ (step_more g h inc earlier s p.0) p.1
  leaf_more g h inc (s ∷ t ∷ more) earlier e =
      let p = and_parts (step_holds ob g earlier s) _ e in
      and_from _ _ (step_more g h inc earlier s p.0) (leaf_more g h inc (t ∷ more) (earlier ++ s ∷ []) p.1)

  pub refutes_more : (r : Refutation) (xs ys : List Signed) → Included xs ys → refutes_under ob r xs ≡ true → refutes_under ob r ys ≡ true
  refutes_more (leaf steps) xs ys inc e = leaf_more (given_at ob xs) (given_at ob ys) (included_in_front xs ys (given_first ob) inc) steps [] e
  refutes_more (split x a b) xs ys inc e =
      let p = and_parts (is_shallow x) _ e in
      let q = and_parts (refutes_under ob a (signed_of x ∷ xs)) _ p.1 in
      and_from _ _ p.0 (and_from _ _
      (refutes_more a (signed_of x ∷ xs) (signed_of x ∷ ys) (included_one_more (signed_of x) xs ys inc) q.0)
      (refutes_more b (negated (signed_of x) ∷ xs) (negated (signed_of x) ∷ ys) (included_one_more (negated (signed_of x)) xs ys inc) q.1))

  pub branches_refute : (x : Literal) (a b : Refutation) (xs : List Signed) → is_shallow x ≡ true → refutes_under ob a (signed_of x ∷ xs) ≡ true → refutes_under ob b (negated (signed_of x) ∷ xs) ≡ true → refutes_under ob (split x a b) xs ≡ true
  branches_refute x a b xs shallow first second = and_from _ _ shallow (and_from _ _ first second)
