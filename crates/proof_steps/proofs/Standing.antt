-- Where a refutation stands: a faithful table, and what is given, the known conjuncts and the steps before, covered and true.
-- It stands there as well under a table that says more, and each step that is right brings it on.
use Rattle.std.specs.Prelude.{◌≡◌, true, not, List, [], ◌∷◌, ◌++◌}
use Rattle.std.specs.List.{list_all}
use Rattle.std.proofs.Common.{◌∙◌, ap}
use Rattle.std.proofs.lemmas.Bool.{and_parts}
use Rattle.toy_imp.specs.declared.instance.Instance.{Instance}
use Rattle.toy_imp.specs.Store.{Store}
use Rattle.toy_imp.specs.Meets.{Meets}
use Rattle.rule_terms.specs.declared.obligation.Literal.{Literal}
use Rattle.rule_terms.specs.declared.obligation.Obligation.{Obligation}
use Rattle.term_meaning.specs.Table.{Entry, Faithful, Grows}
use Rattle.term_meaning.specs.Meaning.{conjunct_truth, CoversLiterals, CoversConjuncts, fits_kinds}
use Rattle.term_meaning.proofs.Growth.{atom_kept, covers_atom_kept, conjuncts_kept, covers_conjuncts_kept}
use Rattle.term_meaning.proofs.Assuming.{extend_literals}
use Rattle.term_meaning.proofs.InUse.{by_truth}
use Rattle.law_clauses.specs.Signed.{Signed, plus, minus, signed_of}
use Rattle.law_clauses.proofs.Each.{Each, each_joined}
use Rattle.law_clauses.proofs.Meant.{truth, IsTrueHere, Covers, signed_covered, all_covered}
use Rattle.refutations.specs.declared.refutation.By.{By}
use Rattle.refutations.specs.declared.refutation.By.TheVariants.{Law}
use Rattle.refutations.specs.declared.refutation.Step.{Step}
use Rattle.proof_steps.specs.Steps.{is_shallow, reason_is_shallow, step_holds}
use Rattle.proof_steps.proofs.Citing.{StepIsTrue}
use Rattle.proof_steps.proofs.Stepping.{ReasonCovered, reason_shows}

-- ---- literals under a table that says more
module _ (i : Instance) (T U : List Entry) (g : Grows T U) (l r : Store) where
  truth_kept : (x : Signed) → Covers i T l r x → truth i U l r x ≡ truth i T l r x
  truth_kept (plus a) c = atom_kept i T U g l r a c
  truth_kept (minus a) c = ap not (atom_kept i T U g l r a c)

  covered_kept : (x : Signed) → Covers i T l r x → Covers i U l r x
  covered_kept (plus a) c = covers_atom_kept i T U g l r a c
  covered_kept (minus a) c = covers_atom_kept i T U g l r a c

  all_kept : (xs : List Signed) → Each (Covers i T l r) xs → Each (IsTrueHere i T l r) xs → Each (IsTrueHere i U l r) xs
  all_kept [] c h = tt
  all_kept (x ∷ xs) c h = (truth_kept x c.0 ∙ h.0, all_kept xs c.1 h.1)

  all_covered_kept : (xs : List Signed) → Each (Covers i T l r) xs → Each (Covers i U l r) xs
  all_covered_kept [] c = tt
  all_covered_kept (x ∷ xs) c = (covered_kept x c.0, all_covered_kept xs c.1)

-- ---- steps
abbrev pub StepCovered : Instance → List Entry → Store → Store → Step → Type 0
StepCovered i T l r s = Covers i T l r (signed_of s.gives)

module _ (i : Instance) (T U : List Entry) (g : Grows T U) (l r : Store) where
  steps_kept : (steps : List Step) → Each (StepCovered i T l r) steps → Each (StepIsTrue i T l r) steps → Each (StepIsTrue i U l r) steps
  steps_kept [] c h = tt
  steps_kept (s ∷ steps) c h = (truth_kept i T U g l r (signed_of s.gives) c.0 ∙ h.0, steps_kept steps c.1 h.1)

  steps_covered_kept : (steps : List Step) → Each (StepCovered i T l r) steps → Each (StepCovered i U l r) steps
  steps_covered_kept [] c = tt
  steps_covered_kept (s ∷ steps) c = (covered_kept i T U g l r (signed_of s.gives) c.0, steps_covered_kept steps c.1)

-- the literals whose terms a reason speaks of
abbrev reason_literals : By → List Literal
reason_literals (Law k clause p from) = clause
reason_literals _ = []

reason_covered : (i : Instance) (T : List Entry) (l r : Store) (why : By) → CoversLiterals i T l r (reason_literals why) → ReasonCovered i T l r why
reason_covered i T l r (Law k clause p from) c = all_covered i T l r clause c
reason_covered i T l r _ c = tt

module _ (A : Type 0) (i : Instance) (l r : Store) (ob : Obligation) where
  pub record Standing (T : List Entry) (given : List Signed) (earlier : List Step) : Type 0 where
    pub faithful : Faithful A i T
    pub known_covered : CoversConjuncts i T l r ob.known
    pub known : list_all (conjunct_truth i T l r) ob.known ≡ true
    pub given_covered : Each (Covers i T l r) given
    pub given_true : Each (IsTrueHere i T l r) given
    pub covered : Each (StepCovered i T l r) earlier
    pub all_true : Each (StepIsTrue i T l r) earlier

  pub grown : (T U : List Entry) (given : List Signed) (earlier : List Step) → Standing T given earlier → Faithful A i U → Grows T U → Standing U given earlier
  grown T U given earlier s f g =
      record {
        faithful = f;
        known_covered = covers_conjuncts_kept i T U g l r ob.known s.known_covered;
        known = conjuncts_kept i T U g l r ob.known s.known_covered ∙ s.known;
        given_covered = all_covered_kept i T U g l r given s.given_covered;
        given_true = all_kept i T U g l r given s.given_covered s.given_true;
        covered = steps_covered_kept i T U g l r earlier s.covered;
        all_true = steps_kept i T U g l r earlier s.covered s.all_true;
      }

  pub assumed : (T : List Entry) (given : List Signed) (earlier : List Step) (x : Signed) → Standing T given earlier → Covers i T l r x → IsTrueHere i T l r x → Standing T (x ∷ given) earlier
  assumed T given earlier x s c h =
      record {
        faithful = s.faithful;
        known_covered = s.known_covered;
        known = s.known;
        covered = s.covered;
        all_true = s.all_true;
        given_covered = (c, s.given_covered);
        given_true = (h, s.given_true);
      }

  stepped : (T : List Entry) (given : List Signed) (earlier : List Step) (step : Step) → Standing T given earlier → StepCovered i T l r step → StepIsTrue i T l r step → Standing T given (earlier ++ step ∷ [])
  stepped T given earlier step s c h =
      record {
        faithful = s.faithful;
        known_covered = s.known_covered;
        known = s.known;
        given_covered = s.given_covered;
        given_true = s.given_true;
        covered = each_joined (StepCovered i T l r) earlier (step ∷ []) s.covered (c, tt);
        all_true = each_joined (StepIsTrue i T l r) earlier (step ∷ []) s.all_true (h, tt);
      }

  module _ (fits : fits_kinds ob.params i.fillings ≡ true) (meets : Each (Meets i) ob.conditions) where
    -- a step that is right is true under a table that covers it, or there is the answer
    pub step_on : (T : List Entry) (given : List Signed) (earlier : List Step) (step : Step) → Standing T given earlier → step_holds ob given earlier step ≡ true →
        ((U : List Entry) → Standing U given earlier → StepIsTrue i U l r step → Standing U given (earlier ++ step ∷ []) → A) → A
    unfolding step_holds
    step_on T given earlier step s e ret =
        let p = and_parts (is_shallow step.gives) _ e in
        let q = and_parts (reason_is_shallow step.by) _ p.1 in
        extend_literals A i l r (step.gives ∷ reason_literals step.by) T s.faithful (λ U f g c.
        let here : Standing U given earlier = grown T U given earlier s f g in
        let covers = signed_covered i U l r step.gives c.0 in
        by_truth A (truth i U l r (signed_of step.gives))
        (λ h. ret U here h (stepped U given earlier step here covers h))
        (λ h. reason_shows i U l r A f ob fits meets here.known given here.given_true earlier here.all_true step.by (signed_of step.gives) q.1 (reason_covered i U l r step.by c.1) h))
