-- Each step is right: where what is given, the known conjuncts and the steps before are true, and the literal of the step fails,
-- whatever is being shown is so.
use Rattle.std.specs.Prelude.{◌≡◌, ℕ, Bool, true, false, not, ◌==◌, ◌||◌, List, [], ◌∷◌, Option, Some, None, slice_get}
use Rattle.std.specs.List.{list_all}
use Rattle.std.proofs.Common.{sym, ◌∙◌, ap, subst, true≢false}
use Rattle.std.proofs.lemmas.Bool.{and_parts}
use Rattle.toy_imp.specs.declared.instance.Instance.{Instance}
use Rattle.toy_imp.specs.Cell.{spelled}
use Rattle.toy_imp.specs.Store.{Store}
use Rattle.toy_imp.specs.Meets.{Meets}
use Rattle.toy_imp.specs.Fill.{name_at}
use Rattle.rule_terms.specs.Order.{store_same, value_same}
use Rattle.rule_terms.specs.declared.obligation.Atom.{Atom}
use Rattle.rule_terms.specs.declared.obligation.Atom.TheVariants.{SameName, SameStore, SameValue}
use Rattle.rule_terms.specs.declared.obligation.Conjunct.{Conjunct}
use Rattle.rule_terms.specs.declared.obligation.Literal.{Literal}
use Rattle.rule_terms.specs.declared.obligation.Obligation.{Obligation}
use Rattle.term_meaning.specs.Table.{Entry, Faithful}
use Rattle.term_meaning.specs.Meaning.{store_of, value_of, atom_truth, literal_truth, gives_truth, conjunct_truth, fits_kinds}
use Rattle.term_meaning.proofs.Truths.{names_equal, names_from, stores_equal, stores_from, values_equal, values_from}
use Rattle.law_clauses.specs.Signed.{Signed, plus, minus, all_signed, signed_same}
use Rattle.law_clauses.specs.Laws.{is_clause}
use Rattle.law_clauses.proofs.Same.{same_truth, number_is, store_is, value_is, signed_is}
use Rattle.law_clauses.proofs.Each.{Each, IfThere, each_at, any_found}
use Rattle.law_clauses.proofs.Meant.{IsTrueHere, Fails, Covers, signed_truth, true_all}
use Rattle.law_clauses.proofs.Clauses.{clause_true}
use Rattle.refutations.specs.declared.refutation.By.{By}
use Rattle.refutations.specs.declared.refutation.By.TheVariants.{Given, Known, Refl, Flip, Chain, Alike, Carry, Law, Meet, Sum}
use Rattle.refutations.specs.declared.refutation.Step.{Step}
use Rattle.proof_steps.specs.Cited.{fact, is_that, cited}
use Rattle.proof_steps.specs.Steps.{is_given, given_by, by_known, by_itself, is_flipped, flipped, is_chain, chained, without, all_negated, by_law, follows}
use Rattle.proof_steps.proofs.Citing.{StepIsTrue, fact_true, cited_true, negations_fail, clause_fails}
use Rattle.proof_steps.proofs.Replacing.{alike_true, carried_true}
use Rattle.proof_steps.proofs.Summing.{summed_true, met_true}

module _ (i : Instance) (T : List Entry) (l r : Store) where
  given_true : (given : List Signed) (x : Signed) → is_given given x ≡ true → Each (IsTrueHere i T l r) given → IsTrueHere i T l r x
  given_true given x e h = any_found (IsTrueHere i T l r) (signed_same x) given e h (λ y same is_true. subst (IsTrueHere i T l r) (sym (signed_is x y same)) is_true)

  -- ---- known conjuncts
  gives_true : (o : Option Literal) → gives_truth i T l r o ≡ true → IsTrueHere i T l r (given_by o)
  gives_true None e = absurd (true≢false (sym e))
  gives_true (Some x) e = signed_truth i T l r x ∙ e

  conjunct_gives : (a b : Bool) → (not a || b) ≡ true → a ≡ true → b ≡ true
  conjunct_gives true b e h = e
  conjunct_gives false b e h = absurd (true≢false (sym h))

  known_true : (earlier : List Step) → Each (StepIsTrue i T l r) earlier → (o : Option Conjunct) → IfThere (λ c. conjunct_truth i T l r c ≡ true) o → (from : List ℕ) (x : Signed) → by_known earlier o from x ≡ true → IsTrueHere i T l r x
  unfolding by_known
  known_true earlier all_true None known from x e = absurd (true≢false (sym e))
  known_true earlier all_true (Some c) known from x e =
      let p = and_parts (cited earlier from (all_signed c.when)) _ e in
      let when = true_all i T l r c.when (cited_true i T l r earlier all_true from (all_signed c.when) p.0) in
      let gives = conjunct_gives (list_all (literal_truth i T l r) c.when) (gives_truth i T l r c.gives) known when in
      subst (IsTrueHere i T l r) (sym (signed_is x (given_by c.gives) p.1)) (gives_true c.gives gives)

  pub each_known : (cs : List Conjunct) → list_all (conjunct_truth i T l r) cs ≡ true → Each (λ c. conjunct_truth i T l r c ≡ true) cs
  each_known [] e = tt
  each_known (c ∷ cs) e = let p = and_parts (conjunct_truth i T l r c) _ e in (p.0, each_known cs p.1)

  -- ---- equalities
  itself_true : (x : Signed) → by_itself x ≡ true → IsTrueHere i T l r x
  unfolding by_itself
  itself_true (plus (SameName x y)) e = names_from i T l r x y (ap (λ k. spelled (name_at i k)) (number_is x y e))
  itself_true (plus (SameStore a b)) e = stores_from i T l r a b (ap (store_of i T l r) (store_is a b e))
  itself_true (plus (SameValue a b)) e = values_from i T l r a b (ap (value_of i T l r) (value_is a b e))
  itself_true _ e = absurd (true≢false (sym e))

  names_flip : (x y : ℕ) → atom_truth i T l r (SameName x y) ≡ true → atom_truth i T l r (SameName y x) ≡ true
  names_flip x y e = names_from i T l r y x (sym (names_equal i T l r x y e))

  flipped_same : (a b : Atom) → is_flipped a b ≡ true → atom_truth i T l r a ≡ atom_truth i T l r b
  flipped_same (SameName x y) (SameName z w) e =
      let p = and_parts (z == y) _ e in
      same_truth _ _ (names_flip x y) (names_flip y x) ∙ (λ j. atom_truth i T l r (SameName (sym (number_is z y p.0) j) (sym (number_is w x p.1) j)))
  flipped_same (SameStore a b) (SameStore c d) e =
      let p = and_parts (store_same c b) _ e in
      same_truth _ _ (λ h. stores_from i T l r b a (sym (stores_equal i T l r a b h))) (λ h. stores_from i T l r a b (sym (stores_equal i T l r b a h)))
      ∙ (λ j. atom_truth i T l r (SameStore (sym (store_is c b p.0) j) (sym (store_is d a p.1) j)))
  flipped_same (SameValue a b) (SameValue c d) e =
      let p = and_parts (value_same c b) _ e in
      same_truth _ _ (λ h. values_from i T l r b a (sym (values_equal i T l r a b h))) (λ h. values_from i T l r a b (sym (values_equal i T l r b a h)))
      ∙ (λ j. atom_truth i T l r (SameValue (sym (value_is c b p.0) j) (sym (value_is d a p.1) j)))
  flipped_same _ _ e = absurd (true≢false (sym e))

  flipped_true : (o : Option Signed) (x : Signed) → flipped o x ≡ true → IfThere (IsTrueHere i T l r) o → IsTrueHere i T l r x
  unfolding flipped
  flipped_true (Some (plus a)) (plus b) e h = sym (flipped_same a b e) ∙ h
  flipped_true (Some (minus a)) (minus b) e h = ap not (sym (flipped_same a b e)) ∙ h
  flipped_true _ _ e h = absurd (true≢false (sym e))

  chain_true : (a b c : Atom) → is_chain a b c ≡ true → atom_truth i T l r a ≡ true → atom_truth i T l r b ≡ true → atom_truth i T l r c ≡ true
  chain_true (SameName a b) (SameName c d) (SameName e f) h one two =
      let p = and_parts (b == c) _ h in
      let q = and_parts (e == a) _ p.1 in
      let spell = λ (k : ℕ). spelled (name_at i k) in
      names_from i T l r e f (ap spell (number_is e a q.0) ∙ names_equal i T l r a b one ∙ ap spell (number_is b c p.0) ∙ names_equal i T l r c d two ∙ sym (ap spell (number_is f d q.1)))
  chain_true (SameStore a b) (SameStore c d) (SameStore e f) h one two =
      let p = and_parts (store_same b c) _ h in
      let q = and_parts (store_same e a) _ p.1 in
      stores_from i T l r e f (ap (store_of i T l r) (store_is e a q.0) ∙ stores_equal i T l r a b one ∙ ap (store_of i T l r) (store_is b c p.0) ∙ stores_equal i T l r c d two ∙ sym (ap (store_of i T l r) (store_is f d q.1)))
  chain_true (SameValue a b) (SameValue c d) (SameValue e f) h one two =
      let p = and_parts (value_same b c) _ h in
      let q = and_parts (value_same e a) _ p.1 in
      values_from i T l r e f (ap (value_of i T l r) (value_is e a q.0) ∙ values_equal i T l r a b one ∙ ap (value_of i T l r) (value_is b c p.0) ∙ values_equal i T l r c d two ∙ sym (ap (value_of i T l r) (value_is f d q.1)))
  chain_true _ _ _ h one two = absurd (true≢false (sym h))

  chained_true : (o p : Option Signed) (x : Signed) → chained o p x ≡ true → IfThere (IsTrueHere i T l r) o → IfThere (IsTrueHere i T l r) p → IsTrueHere i T l r x
  unfolding chained
  chained_true (Some (plus a)) (Some (plus b)) (plus c) e h k = chain_true a b c e h k
  chained_true _ _ _ e h k = absurd (true≢false (sym e))

  -- ---- any reason
  -- the table covers the clause that a step cites
  abbrev pub ReasonCovered : By → Type 0
  ReasonCovered (Law k clause p from) = Each (Covers i T l r) (all_signed clause)
  ReasonCovered _ = Unit {0}

  module _ (A : Type 0) (faithful : Faithful A i T) (ob : Obligation) (fits : fits_kinds ob.params i.fillings ≡ true) (meets : Each (Meets i) ob.conditions) (known : list_all (conjunct_truth i T l r) ob.known ≡ true) where
    module _ (given : List Signed) (given_here : Each (IsTrueHere i T l r) given) (earlier : List Step) (all_true : Each (StepIsTrue i T l r) earlier) where
      abbrev There : ℕ → Type 0
      There k = IfThere (IsTrueHere i T l r) (fact earlier k)

      there : (k : ℕ) → There k
      there k = fact_true i T l r earlier k all_true

      -- what is true does not fail
      contradicted : (x : Signed) → IsTrueHere i T l r x → Fails i T l r x → A
      contradicted x h f = absurd (true≢false (sym h ∙ f))

      law_shows : (k : ℕ) (clause : List Signed) (p : ℕ) (from : List ℕ) (x : Signed) → by_law ob earlier k clause p from x ≡ true → Each (Covers i T l r) clause → Fails i T l r x → A
      unfolding by_law
      law_shows k clause p from x e covers fails =
          let h = and_parts (is_clause ob k clause) _ e in
          let g = and_parts (is_that (slice_get clause p) x) _ h.1 in
          let others = negations_fail i T l r (without p clause) (cited_true i T l r earlier all_true from (all_negated (without p clause)) g.1) in
          clause_true A i T l r faithful ob fits meets k clause h.0 covers (clause_fails i T l r clause p x g.0 fails others)

      pub reason_shows : (why : By) (x : Signed) → follows ob given earlier why x ≡ true → ReasonCovered why → Fails i T l r x → A
      reason_shows Given x e covers fails = contradicted x (given_true given x e given_here) fails
      reason_shows (Known k from) x e covers fails = contradicted x (known_true earlier all_true (slice_get ob.known k) (each_at (λ c. conjunct_truth i T l r c ≡ true) ob.known k (each_known ob.known known)) from x e) fails
      reason_shows Refl x e covers fails = contradicted x (itself_true x e) fails
      reason_shows (Flip k) x e covers fails = contradicted x (flipped_true (fact earlier k) x e (there k)) fails
      reason_shows (Chain j k) x e covers fails = contradicted x (chained_true (fact earlier j) (fact earlier k) x e (there j) (there k)) fails
      reason_shows (Alike from) x e covers fails = contradicted x (alike_true i T l r earlier all_true from x e) fails
      reason_shows (Carry k from) x e covers fails = contradicted x (carried_true i T l r earlier all_true from (fact earlier k) x e (there k)) fails
      reason_shows (Law k clause p from) x e covers fails = law_shows k (all_signed clause) p from x e covers fails
      reason_shows (Meet j k) x e covers fails = contradicted x (met_true i T l r (fact earlier j) (fact earlier k) x e (there j) (there k)) fails
      reason_shows (Sum rows) x e covers fails = contradicted x (summed_true i T l r earlier all_true rows x e) fails
