-- What cited steps say is true where all steps before are.
use Rattle.std.specs.Prelude.{◌≡◌, ℕ, zero, suc, true, List, [], ◌∷◌, Option, Some, None, slice_get}
use Rattle.std.proofs.Common.{sym, subst, true≢false}
use Rattle.std.proofs.lemmas.Bool.{and_parts}
use Rattle.toy_imp.specs.declared.instance.Instance.{Instance}
use Rattle.toy_imp.specs.Store.{Store}
use Rattle.term_meaning.specs.Table.{Entry}
use Rattle.law_clauses.specs.Signed.{Signed, signed_of}
use Rattle.law_clauses.proofs.Same.{signed_is}
use Rattle.law_clauses.proofs.Each.{Each, IfThere, each_at}
use Rattle.law_clauses.proofs.Meant.{IsTrueHere, Fails, true_negation}
use Rattle.refutations.specs.declared.refutation.Step.{Step}
use Rattle.proof_steps.specs.Cited.{stated, fact, is_that, cited}
use Rattle.proof_steps.specs.Steps.{without, all_negated}

module _ (i : Instance) (T : List Entry) (l r : Store) where
  abbrev pub StepIsTrue : Step → Type 0
  StepIsTrue s = IsTrueHere i T l r (signed_of s.gives)

  stated_true : (o : Option Step) → IfThere StepIsTrue o → IfThere (IsTrueHere i T l r) (stated o)
  stated_true None h = tt
  stated_true (Some s) h = h

  pub fact_true : (earlier : List Step) (k : ℕ) → Each StepIsTrue earlier → IfThere (IsTrueHere i T l r) (fact earlier k)
  fact_true earlier k h = stated_true (slice_get earlier k) (each_at StepIsTrue earlier k h)

  pub that_true : (o : Option Signed) (x : Signed) → is_that o x ≡ true → IfThere (IsTrueHere i T l r) o → IsTrueHere i T l r x
  that_true None x e h = absurd (true≢false (sym e))
  that_true (Some y) x e h = subst (IsTrueHere i T l r) (signed_is y x e) h

  pub cited_true : (earlier : List Step) → Each StepIsTrue earlier → (ks : List ℕ) (xs : List Signed) → cited earlier ks xs ≡ true → Each (IsTrueHere i T l r) xs
  unfolding cited
  cited_true earlier h [] [] e = tt
  cited_true earlier h [] (x ∷ xs) e = absurd (true≢false (sym e))
  cited_true earlier h (k ∷ ks) [] e = absurd (true≢false (sym e))
  cited_true earlier h (k ∷ ks) (x ∷ xs) e =
      let p = and_parts (is_that (fact earlier k) x) _ e in
      (that_true (fact earlier k) x p.0 (fact_true earlier k h), cited_true earlier h ks xs p.1)

  pub negations_fail : (xs : List Signed) → Each (IsTrueHere i T l r) (all_negated xs) → Each (Fails i T l r) xs
  unfolding all_negated
  negations_fail [] h = tt
  negations_fail (x ∷ xs) h = (true_negation i T l r x h.0, negations_fail xs h.1)

  -- a literal of a clause and the others
  pub clause_fails : (clause : List Signed) (p : ℕ) (x : Signed) → is_that (slice_get clause p) x ≡ true → Fails i T l r x → Each (Fails i T l r) (without p clause) → Each (Fails i T l r) clause
  clause_fails [] p x e fails others = absurd (true≢false (sym e))
  clause_fails (y ∷ ys) zero x e fails others = (subst (Fails i T l r) (sym (signed_is y x e)) fails, others)
  clause_fails (y ∷ ys) (suc p) x e fails others = (others.0, clause_fails ys p x e fails others.1)
