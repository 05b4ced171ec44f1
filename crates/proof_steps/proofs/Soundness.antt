-- A refutation that is right makes its obligation hold: its leaves are contradictions, and a split is a case of a computed truth.
use Rattle.std.specs.Prelude.{◌≡◌, true, false, not, List, [], ◌∷◌, ◌++◌, Option, Some, None}
use Rattle.std.specs.List.{list_all, list_any}
use Rattle.std.proofs.Common.{sym, ◌∙◌, ap, inl, inr, true≢false}
use Rattle.std.proofs.lemmas.Bool.{and_parts, or_parts}
use Rattle.toy_imp.specs.declared.instance.Instance.{Instance}
use Rattle.toy_imp.specs.Store.{Store}
use Rattle.toy_imp.specs.Meets.{Meets}
use Rattle.rule_terms.specs.declared.obligation.Literal.{Literal}
use Rattle.rule_terms.specs.declared.obligation.Obligation.{Obligation}
use Rattle.term_meaning.specs.Table.{Entry}
use Rattle.term_meaning.specs.Meaning.{literal_truth, gives_truth, CoversGives, fits_kinds, Reached, ObligationHolds}
use Rattle.term_meaning.proofs.Assuming.{extend_literals}
use Rattle.term_meaning.proofs.InUse.{by_truth}
use Rattle.law_clauses.specs.Signed.{Signed, signed_of, all_signed, negated}
use Rattle.law_clauses.proofs.Same.{or_cases, not_false, signed_is}
use Rattle.law_clauses.proofs.Each.{Each, each_joined, each_of_all, any_found}
use Rattle.law_clauses.proofs.Meant.{truth, IsTrueHere, Covers, signed_truth, signed_covered, all_covered, all_true, negation_true, true_negation, negation_covered}
use Rattle.refutations.specs.declared.refutation.Step.{Step}
use Rattle.refutations.specs.Refutation.{Refutation, split, leaf}
use Rattle.proof_steps.specs.Steps.{is_shallow, step_holds}
use Rattle.proof_steps.specs.Refutes.{denied, given_first, given_at, is_absurd, denies, closes, leaf_closes, refutes_under, refutes}
use Rattle.proof_steps.proofs.Citing.{StepIsTrue}
use Rattle.proof_steps.proofs.Summing.{absurd_fails}
use Rattle.proof_steps.proofs.Standing.{Standing, grown, assumed, step_on}

module _ (i : Instance) (T : List Entry) (l r : Store) where
  -- a step that is denied by an earlier one, or absurd, is not true
  closed : (A : Type 0) (earlier : List Step) → Each (StepIsTrue i T l r) earlier → (x : Signed) → closes earlier x ≡ true → IsTrueHere i T l r x → A
  closed A earlier all_here x e h =
      elim (or_cases (list_any (denies x) earlier) (is_absurd x) e) as (λ _. A) [
        | inl f ↦ any_found (StepIsTrue i T l r) (denies x) earlier f all_here (λ s same is_true. absurd (true≢false (sym h ∙ true_negation i T l r x (ap (truth i T l r) (sym (signed_is (signed_of s.gives) (negated x) same)) ∙ is_true))))
        | inr f ↦ absurd (absurd_fails i T l r x f h)
      ]

  denied_true : (o : Option Literal) → gives_truth i T l r o ≡ false → Each (IsTrueHere i T l r) (denied o)
  denied_true None e = tt
  denied_true (Some x) e = (negation_true i T l r (signed_of x) (signed_truth i T l r x ∙ e), tt)

  denied_covered : (o : Option Literal) → CoversGives i T l r o → Each (Covers i T l r) (denied o)
  denied_covered None c = tt
  denied_covered (Some x) c = (negation_covered i T l r (signed_of x) (signed_covered i T l r x c), tt)

module _ (A : Type 0) (i : Instance) (l r : Store) (ob : Obligation) (fits : fits_kinds ob.params i.fillings ≡ true) (meets : Each (Meets i) ob.conditions) where
  leaf_shows : (given : List Signed) (more earlier : List Step) → leaf_closes ob given earlier more ≡ true → (T : List Entry) → Standing A i l r ob T given earlier → A
  unfolding leaf_closes
  leaf_shows given [] earlier e T here = absurd (true≢false (sym e))
  leaf_shows given (s ∷ []) earlier e T here =
      let p = and_parts (step_holds ob given earlier s) _ e in
      step_on A i l r ob fits meets T given earlier s here p.0 (λ U stands h on. closed i U l r A earlier stands.all_true (signed_of s.gives) p.1 h)
  leaf_shows given (s ∷ t ∷ more) earlier e T here =
      let p = and_parts (step_holds ob given earlier s) _ e in
      step_on A i l r ob fits meets T given earlier s here p.0 (λ U stands h on. leaf_shows given (t ∷ more) (earlier ++ s ∷ []) p.1 U on)

  abbrev Shows : Refutation → Type 0
  Shows proof = (on_way : List Signed) → refutes_under ob proof on_way ≡ true → (T : List Entry) → Standing A i l r ob T (given_at ob on_way) [] → A

  split_shows : (x : Literal) (a b : Refutation) → Shows a → Shows b → Shows (split x a b)
  split_shows x a b first second on_way e T here =
      let p = and_parts (is_shallow x) _ e in
      let q = and_parts (refutes_under ob a (signed_of x ∷ on_way)) _ p.1 in
      extend_literals A i l r (x ∷ []) T here.faithful (λ U f g c.
      let stands : Standing A i l r ob U (given_at ob on_way) [] = grown A i l r ob T U (given_at ob on_way) [] here f g in
      let covers = signed_covered i U l r x c.0 in
      by_truth A (truth i U l r (signed_of x))
      (λ h. first (signed_of x ∷ on_way) q.0 U (assumed A i l r ob U (given_at ob on_way) [] (signed_of x) stands covers h))
      (λ h. second (negated (signed_of x) ∷ on_way) q.1 U (assumed A i l r ob U (given_at ob on_way) [] (negated (signed_of x)) stands (negation_covered i U l r (signed_of x) covers) (negation_true i U l r (signed_of x) h))))

  shows : (proof : Refutation) → Shows proof
  shows (split x a b) = split_shows x a b (shows a) (shows b)
  shows (leaf steps) = λ on_way e T here. leaf_shows (given_at ob on_way) steps [] e T here

pub refuted_holds : (ob : Obligation) (proof : Refutation) → refutes ob proof ≡ true → ObligationHolds ob
unfolding refutes
refuted_holds ob proof e =
    record {
      shows = λ f i fits meets T l r faithful covers known path fails.
          let goal = or_parts (not (list_all (literal_truth i T l r) ob.goal.when)) (gives_truth i T l r ob.goal.gives) fails in
          let when = all_true i T l r ob.goal.when (not_false (list_all (literal_truth i T l r) ob.goal.when) goal.0) in
          let denied_here = denied_true i T l r ob.goal.gives goal.1 in
          let path_here = all_true i T l r ob.path path in
          let true_here : Each (IsTrueHere i T l r) (given_first ob) = each_joined (IsTrueHere i T l r) (all_signed ob.path) (all_signed ob.goal.when ++ denied ob.goal.gives) path_here (each_joined (IsTrueHere i T l r) (all_signed ob.goal.when) (denied ob.goal.gives) when denied_here) in
          let when_covered = all_covered i T l r ob.goal.when covers.1.1.0 in
          let covered_here : Each (Covers i T l r) (given_first ob) = each_joined (Covers i T l r) (all_signed ob.path) (all_signed ob.goal.when ++ denied ob.goal.gives) (all_covered i T l r ob.path covers.1.0) (each_joined (Covers i T l r) (all_signed ob.goal.when) (denied ob.goal.gives) when_covered (denied_covered i T l r ob.goal.gives covers.1.1.1)) in
          let begins : Standing (Reached f) i l r ob T (given_first ob) [] = record { faithful = faithful; known_covered = covers.0; known = known; given_covered = covered_here; given_true = true_here; covered = tt; all_true = tt } in
          shows (Reached f) i l r ob fits (each_of_all (Meets i) ob.conditions meets) proof [] e T begins;
    }
