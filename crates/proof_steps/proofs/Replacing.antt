-- Terms whose arguments are identical or equal mean the same; so `Alike` and `Carry` give what is true.
use Rattle.std.specs.Prelude.{◌≡◌, ℕ, ◌+ℤ◌, ◌-ℤ◌, ◌*ℤ◌, Bool, true, false, cond, not, ◌==◌, List, [], ◌∷◌, Option, Some, None, is_some, int_le, refl}
use Rattle.std.proofs.Common.{sym, ◌∙◌, ap, true≢false, arith}
use Rattle.std.proofs.lemmas.Bool.{and_parts}
use Rattle.toy_imp.specs.declared.instance.Instance.{Instance}
use Rattle.toy_imp.specs.Cell.{spelled}
use Rattle.toy_imp.specs.Store.{Store}
use Rattle.toy_imp.specs.Fill.{name_at, expr_at, test_at}
use Rattle.rule_terms.specs.Term.{StoreTerm, left_store, right_store, put, run, ValueTerm, num, get, ev, add, sub, mul, ValueTerms, no_terms, term}
use Rattle.rule_terms.specs.declared.obligation.Atom.{Atom}
use Rattle.rule_terms.specs.declared.obligation.Atom.TheVariants.{SameName, SameStore, SameValue, AtMost, Ends, Holds}
use Rattle.term_meaning.specs.MaybeStore.{put_in, read_in, value_in, truth_in}
use Rattle.term_meaning.specs.Table.{Entry, after}
use Rattle.term_meaning.specs.Indices.{count}
use Rattle.term_meaning.specs.Meaning.{store_of, value_of, values_of, atom_truth}
use Rattle.term_meaning.proofs.Truths.{names_equal, stores_equal, stores_from, values_equal, values_from}
use Rattle.law_clauses.specs.Signed.{Signed, plus, minus}
use Rattle.law_clauses.proofs.Same.{number_is, integer_is, store_is, value_is}
use Rattle.law_clauses.proofs.Each.{Each, IfThere}
use Rattle.law_clauses.proofs.Meant.{IsTrueHere}
use Rattle.refutations.specs.declared.refutation.Step.{Step}
use Rattle.proof_steps.specs.Cited.{fact}
use Rattle.law_clauses.specs.Arguments.{Argument, of_name, of_store, of_value, index_arguments, store_arguments, value_arguments, store_top, value_top, identical, equality}
use Rattle.proof_steps.specs.Replaced.{says, left_by_equality, left_by_pair, left_by_pairs, all_used, replaced, alike, carried_atom, carried}
use Rattle.proof_steps.proofs.Citing.{StepIsTrue, fact_true, that_true}

used_there : (o : Option (List ℕ)) → all_used o ≡ true → is_some o ≡ true
used_there None e = e
used_there (Some k) e = refl

module _ (i : Instance) (T : List Entry) (l r : Store) where
  -- arguments that mean the same
  abbrev Equal : Argument → Argument → Type 0
  Equal (of_name x) (of_name y) = spelled (name_at i x) ≡ spelled (name_at i y)
  Equal (of_store s) (of_store t) = store_of i T l r s ≡ store_of i T l r t
  Equal (of_value v) (of_value w) = value_of i T l r v ≡ value_of i T l r w
  Equal _ _ = ⊥

  abbrev AllEqual : List Argument → List Argument → Type 0
  AllEqual [] [] = Unit {0}
  AllEqual [] (b ∷ bs) = ⊥
  AllEqual (a ∷ more) [] = ⊥
  AllEqual (a ∷ more) (b ∷ bs) = Equal a b × AllEqual more bs

  identical_equal : (a b : Argument) → identical a b ≡ true → Equal a b
  identical_equal (of_name x) (of_name y) e = ap (λ k. spelled (name_at i k)) (number_is x y e)
  identical_equal (of_store s) (of_store t) e = ap (store_of i T l r) (store_is s t e)
  identical_equal (of_value v) (of_value w) e = ap (value_of i T l r) (value_is v w e)
  identical_equal _ _ e = absurd (true≢false (sym e))

  module _ (earlier : List Step) (all_true : Each (StepIsTrue i T l r) earlier) where
    said_equal : (k : ℕ) (a b : Argument) → says earlier k (equality a b) ≡ true → Equal a b
    said_equal k (of_name x) (of_name y) e = names_equal i T l r x y (that_true i T l r (fact earlier k) (plus (SameName x y)) e (fact_true i T l r earlier k all_true))
    said_equal k (of_store s) (of_store t) e = stores_equal i T l r s t (that_true i T l r (fact earlier k) (plus (SameStore s t)) e (fact_true i T l r earlier k all_true))
    said_equal k (of_value v) (of_value w) e = values_equal i T l r v w (that_true i T l r (fact earlier k) (plus (SameValue v w)) e (fact_true i T l r earlier k all_true))
    said_equal k _ _ e = absurd (true≢false (sym e))

    by_said : (k : ℕ) (from : List ℕ) (a b : Argument) (t : Bool) → says earlier k (equality a b) ≡ t → is_some (cond {A = Option (List ℕ)} t (Some from) None) ≡ true → Equal a b
    by_said k from a b true said e = said_equal k a b said
    by_said k from a b false said e = absurd (true≢false (sym e))

    by_equality : (from : List ℕ) (a b : Argument) → is_some (left_by_equality earlier from (equality a b)) ≡ true → Equal a b
    by_equality [] a b e = absurd (true≢false (sym e))
    by_equality (k ∷ from) a b e = by_said k from a b (says earlier k (equality a b)) refl e

    by_test : (from : List ℕ) (a b : Argument) (t : Bool) → identical a b ≡ t → is_some (cond t (Some from) (left_by_equality earlier from (equality a b))) ≡ true → Equal a b
    by_test from a b true same e = identical_equal a b same
    by_test from a b false same e = by_equality from a b e

    pair_equal : (o : Option (List ℕ)) (a b : Argument) → is_some (left_by_pair earlier o a b) ≡ true → (is_some o ≡ true) × Equal a b
    unfolding left_by_pair
    pair_equal None a b e = absurd (true≢false (sym e))
    pair_equal (Some from) a b e = (refl, by_test from a b (identical a b) refl e)

    pairs_equal : (o : Option (List ℕ)) (more others : List Argument) → is_some (left_by_pairs earlier o more others) ≡ true → (is_some o ≡ true) × AllEqual more others
    unfolding left_by_pairs
    pairs_equal o [] [] e = (e, tt)
    pairs_equal o [] (b ∷ bs) e = absurd (true≢false (sym e))
    pairs_equal o (a ∷ more) [] e = absurd (true≢false (sym e))
    pairs_equal o (a ∷ more) (b ∷ bs) e =
        let p = pairs_equal (left_by_pair earlier o a b) more bs e in
        let q = pair_equal o a b p.0 in
        (q.0, (q.1, p.1))

    replaced_equal : (from : List ℕ) (more others : List Argument) → replaced earlier from more others ≡ true → AllEqual more others
    replaced_equal from more others e = (pairs_equal (Some from) more others (used_there _ e)).1

  -- ---- terms with equal arguments
  indices_equal : (is js : ValueTerms) → count is ≡ count js → (more others : List Argument) → AllEqual (index_arguments is more) (index_arguments js others) → (values_of i T l r is ≡ values_of i T l r js) × AllEqual more others
  unfolding values_of
  indices_equal no_terms no_terms e more others h = (refl, h)
  indices_equal no_terms (term w ws) e more others h = absurd (omega arith)
  indices_equal (term v vs) no_terms e more others h = absurd (omega arith)
  indices_equal (term v vs) (term w ws) e more others h =
      let counts : count vs ≡ count ws = omega arith in
      let p = indices_equal vs ws counts more others h.1 in
      (λ j. h.0 j ∷ p.0 j, p.1)

  stores_alike : (a b : StoreTerm) → store_top a b ≡ true → AllEqual (store_arguments a) (store_arguments b) → store_of i T l r a ≡ store_of i T l r b
  unfolding store_top store_of
  stores_alike left_store left_store e h = refl
  stores_alike right_store right_store e h = refl
  stores_alike (put s x is v) (put t y js w) e h =
      let p = indices_equal is js (number_is (count is) (count js) e) (of_value v ∷ []) (of_value w ∷ []) h.1.1 in
      λ j. put_in (h.0 j) (h.1.0 j, p.0 j) (p.1.0 j)
  stores_alike (run m s) (run n t) e h = λ j. after T (number_is m n e j) (h.0 j)
  stores_alike _ _ e h = absurd (true≢false (sym e))

  values_alike : (a b : ValueTerm) → value_top a b ≡ true → AllEqual (value_arguments a) (value_arguments b) → value_of i T l r a ≡ value_of i T l r b
  unfolding value_top value_of
  values_alike (num y) (num z) e h = integer_is y z e
  values_alike (get x is s) (get y js t) e h =
      let p = indices_equal is js (number_is (count is) (count js) e) (of_store s ∷ []) (of_store t ∷ []) h.1 in
      λ j. read_in (p.1.0 j) (h.0 j, p.0 j)
  values_alike (ev m s) (ev n t) e h = λ j. value_in (h.0 j) (expr_at i (number_is m n e j))
  values_alike (add a b) (add c d) e h = λ j. h.0 j +ℤ h.1.0 j
  values_alike (sub a b) (sub c d) e h = λ j. h.0 j -ℤ h.1.0 j
  values_alike (mul a b) (mul c d) e h = λ j. h.0 j *ℤ h.1.0 j
  values_alike _ _ e h = absurd (true≢false (sym e))

  module _ (earlier : List Step) (all_true : Each (StepIsTrue i T l r) earlier) where
    pub alike_true : (from : List ℕ) (x : Signed) → alike earlier from x ≡ true → IsTrueHere i T l r x
    unfolding alike
    alike_true from (plus (SameStore a b)) e =
        let p = and_parts (store_top a b) _ e in
        stores_from i T l r a b (stores_alike a b p.0 (replaced_equal earlier all_true from (store_arguments a) (store_arguments b) p.1))
    alike_true from (plus (SameValue a b)) e =
        let p = and_parts (value_top a b) _ e in
        values_from i T l r a b (values_alike a b p.0 (replaced_equal earlier all_true from (value_arguments a) (value_arguments b) p.1))
    alike_true from _ e = absurd (true≢false (sym e))

    carried_same : (from : List ℕ) (a b : Atom) → carried_atom earlier from a b ≡ true → atom_truth i T l r a ≡ atom_truth i T l r b
    unfolding atom_truth
    carried_same from (AtMost a b x) (AtMost c d y) e =
        let p = and_parts _ _ e in
        let h = replaced_equal earlier all_true from (of_value a ∷ of_value b ∷ []) (of_value c ∷ of_value d ∷ []) p.1 in
        λ j. int_le (h.0 j) (h.1.0 j +ℤ integer_is x y p.0 j)
    carried_same from (Ends s) (Ends t) e =
        let h = replaced_equal earlier all_true from (of_store s ∷ []) (of_store t ∷ []) e in
        λ j. is_some (h.0 j)
    carried_same from (Holds m s) (Holds n t) e =
        let p = and_parts (m == n) _ e in
        let h = replaced_equal earlier all_true from (of_store s ∷ []) (of_store t ∷ []) p.1 in
        λ j. truth_in (h.0 j) (test_at i (number_is m n p.0 j))
    carried_same from _ _ e = absurd (true≢false (sym e))

    pub carried_true : (from : List ℕ) (o : Option Signed) (x : Signed) → carried earlier from o x ≡ true → IfThere (IsTrueHere i T l r) o → IsTrueHere i T l r x
    unfolding carried
    carried_true from (Some (plus a)) (plus b) e h = sym (carried_same from a b e) ∙ h
    carried_true from (Some (minus a)) (minus b) e h = ap not (sym (carried_same from a b e)) ∙ h
    carried_true from _ _ e h = absurd (true≢false (sym e))
