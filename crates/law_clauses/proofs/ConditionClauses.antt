-- The clauses of the laws that side conditions give, 11 to 21, are true where the conditions are met: where all their literals fail,
-- whatever is being shown is so. For 11, 12, 13 and 17 the table has to be faithful; 16 and 18 may give the answer itself.
use Rattle.std.specs.Prelude.{◌≡◌, ℕ, pos, true, ◌==◌, ◌&&◌, ◌⊎◌, List, [], ◌∷◌, Some, slice_get, zero, suc, refl}
use Rattle.std.proofs.Common.{sym, ◌∙◌, ap, subst, inl, inr, true≢false, arith}
use Rattle.std.proofs.lemmas.Bool.{and_parts}
use Rattle.toy_imp.specs.declared.name.Name.{Name}
use Rattle.toy_imp.specs.declared.condition.Condition.{Condition}
use Rattle.toy_imp.specs.declared.condition.Condition.TheVariants.{Keeps, Ignores, Commutes, Positive, Constant, Distinct}
use Rattle.toy_imp.specs.declared.instance.Filling.{Filling}
use Rattle.toy_imp.specs.declared.instance.Filling.TheVariants as filling
use Rattle.toy_imp.specs.declared.instance.Instance.{Instance}
use Rattle.toy_imp.specs.declared.param.Kind.{Kind}
use Rattle.toy_imp.specs.declared.param.Kind.TheVariants as kind
use Rattle.toy_imp.specs.Cell.{spelled}
use Rattle.toy_imp.specs.Store.{Store}
use Rattle.toy_imp.specs.Fill.{name_at}
use Rattle.toy_imp.specs.Fits.{fits_kind}
use Rattle.toy_imp.specs.Faults.{kind_is}
use Rattle.toy_imp.specs.Meets.{Meets}
use Rattle.rule_terms.specs.Term.{StoreTerm, put, run, ValueTerm, num, get, ev, ValueTerms, no_terms, term}
use Rattle.rule_terms.specs.Order.{store_same, place_same}
use Rattle.rule_terms.specs.Listed.{is_commutes, is_ignores, commute, ignores}
use Rattle.rule_terms.specs.declared.obligation.Atom.TheVariants.{SameName, SameStore, SameValue, AtMost, Ends, Holds}
use Rattle.rule_terms.specs.declared.obligation.Obligation.{Obligation}
use Rattle.term_meaning.specs.Indices.{count}
use Rattle.term_meaning.specs.Table.{Entry, Faithful}
use Rattle.term_meaning.specs.Meaning.{store_of, value_of, atom_truth, CoversStore, CoversAtom, fits_kinds}
use Rattle.term_meaning.proofs.Truths.{at_most_from}
use Rattle.term_meaning.proofs.Conditions.{names_distinct}
use Rattle.term_meaning.proofs.RunsAndConditions.{write_keeps_ignoring_value, write_keeps_ignoring_test, positive_value, constant_value, run_keeps_value, run_keeps_variable, run_keeps_test, run_keeps_ignored_cell, run_past_ignored_write, runs_in_either_order}
use Rattle.law_clauses.specs.Signed.{Signed, plus, minus}
use Rattle.law_clauses.specs.Shapes.{place, is_run, is_num}
use Rattle.law_clauses.specs.Listed.{is_keeps, is_positive, is_constant, is_distinct, keeps, positive, constant, distinct, has_kind, lists_keeps, lists_ignores, lists_commutes, lists_positive, lists_constant, lists_distinct}
use Rattle.law_clauses.specs.ConditionLaws.{law_11, law_12, law_13, law_14, written_at, law_15, law_16, law_17, law_18, law_19, law_20, law_21}
use Rattle.law_clauses.proofs.Same.{or_cases, not_false, number_is, integer_is, store_is, value_is, place_is, run_is, num_is, get_is, ev_is}
use Rattle.law_clauses.proofs.Each.{Each, any_found}
use Rattle.law_clauses.proofs.Meant.{Fails, Covers, names_met, end_met, values_concluded, stores_concluded}

-- ---- what is listed is met
module _ (i : Instance) where
  one_kept : (k o : ℕ) (c : Condition) → is_keeps k o c ≡ true → Meets i c → Meets i (Keeps k o)
  one_kept k o (Keeps a b) e m = let p = and_parts _ _ e in subst (λ y. Meets i (Keeps k y)) (number_is b o p.1) (subst (λ x. Meets i (Keeps x b)) (number_is a k p.0) m)
  one_kept k o _ e m = absurd (true≢false (sym e))

  one_ignored : (k x : ℕ) (c : Condition) → is_ignores k x c ≡ true → Meets i c → Meets i (Ignores k x)
  one_ignored k o (Ignores a b) e m = let p = and_parts _ _ e in subst (λ y. Meets i (Ignores k y)) (number_is b o p.1) (subst (λ x. Meets i (Ignores x b)) (number_is a k p.0) m)
  one_ignored k o _ e m = absurd (true≢false (sym e))

  one_commutes : (j k : ℕ) (c : Condition) → is_commutes j k c ≡ true → Meets i c → Meets i (Commutes j k) ⊎ Meets i (Commutes k j)
  one_commutes j k (Commutes a b) e m =
      elim (or_cases (a == j && b == k) (a == k && b == j) e) as (λ _. Meets i (Commutes j k) ⊎ Meets i (Commutes k j)) [
        | inl f ↦ let p = and_parts (a == j) (b == k) f in inl (subst (λ y. Meets i (Commutes j y)) (number_is b k p.1) (subst (λ x. Meets i (Commutes x b)) (number_is a j p.0) m))
        | inr f ↦ let p = and_parts (a == k) (b == j) f in inr (subst (λ y. Meets i (Commutes k y)) (number_is b j p.1) (subst (λ x. Meets i (Commutes x b)) (number_is a k p.0) m))
      ]
  one_commutes j k _ e m = absurd (true≢false (sym e))

  one_positive : (k : ℕ) (c : Condition) → is_positive k c ≡ true → Meets i c → Meets i (Positive k)
  one_positive k (Positive a) e m = subst (λ x. Meets i (Positive x)) (number_is a k e) m
  one_positive k _ e m = absurd (true≢false (sym e))

  one_constant : (k : ℕ) (c : Condition) → is_constant k c ≡ true → Meets i c → Meets i (Constant k)
  one_constant k (Constant a) e m = subst (λ x. Meets i (Constant x)) (number_is a k e) m
  one_constant k _ e m = absurd (true≢false (sym e))

  one_distinct : (x y : ℕ) (c : Condition) → is_distinct x y c ≡ true → Meets i c → Meets i (Distinct x y) ⊎ Meets i (Distinct y x)
  one_distinct j k (Distinct a b) e m =
      elim (or_cases (a == j && b == k) (a == k && b == j) e) as (λ _. Meets i (Distinct j k) ⊎ Meets i (Distinct k j)) [
        | inl f ↦ let p = and_parts (a == j) (b == k) f in inl (subst (λ y. Meets i (Distinct j y)) (number_is b k p.1) (subst (λ x. Meets i (Distinct x b)) (number_is a j p.0) m))
        | inr f ↦ let p = and_parts (a == k) (b == j) f in inr (subst (λ y. Meets i (Distinct k y)) (number_is b j p.1) (subst (λ x. Meets i (Distinct x b)) (number_is a k p.0) m))
      ]
  one_distinct j k _ e m = absurd (true≢false (sym e))

  module _ (ob : Obligation) (meets : Each (Meets i) ob.conditions) where
    kept : (wanted : Kind) (k o : ℕ) → lists_keeps ob wanted k o ≡ true → Meets i (Keeps k o)
    unfolding lists_keeps keeps
    kept wanted k o e =
        let p = and_parts (has_kind ob.params kind.Stmt k) _ e in
        any_found (Meets i) (is_keeps k o) ob.conditions (and_parts (has_kind ob.params wanted o) _ p.1).1 meets (one_kept k o)

    ignored : (wanted : Kind) (k x : ℕ) → lists_ignores ob wanted k x ≡ true → Meets i (Ignores k x)
    unfolding lists_ignores ignores
    ignored wanted k x e =
        let p = and_parts (has_kind ob.params wanted k) _ e in
        any_found (Meets i) (is_ignores k x) ob.conditions (and_parts (has_kind ob.params kind.Name x) _ p.1).1 meets (one_ignored k x)

    commuting : (j k : ℕ) → lists_commutes ob j k ≡ true → Meets i (Commutes j k) ⊎ Meets i (Commutes k j)
    unfolding lists_commutes commute
    commuting j k e =
        let p = and_parts (has_kind ob.params kind.Stmt j) _ e in
        any_found (Meets i) (is_commutes j k) ob.conditions (and_parts (has_kind ob.params kind.Stmt k) _ p.1).1 meets (one_commutes j k)

    positively : (k : ℕ) → lists_positive ob k ≡ true → Meets i (Positive k)
    unfolding lists_positive positive
    positively k e = any_found (Meets i) (is_positive k) ob.conditions (and_parts (has_kind ob.params kind.Expr k) _ e).1 meets (one_positive k)

    constantly : (k : ℕ) → lists_constant ob k ≡ true → Meets i (Constant k)
    unfolding lists_constant constant
    constantly k e = any_found (Meets i) (is_constant k) ob.conditions (and_parts (has_kind ob.params kind.Expr k) _ e).1 meets (one_constant k)

    distinctly : (x y : ℕ) → lists_distinct ob x y ≡ true → Meets i (Distinct x y) ⊎ Meets i (Distinct y x)
    unfolding lists_distinct distinct
    distinctly x y e =
        let p = and_parts (has_kind ob.params kind.Name x) _ e in
        any_found (Meets i) (is_distinct x y) ob.conditions (and_parts (has_kind ob.params kind.Name y) _ p.1).1 meets (one_distinct x y)

  -- the parameter of which `keeps` is listed is of the kind
  kind_kept : (ob : Obligation) (wanted : Kind) (k o : ℕ) → lists_keeps ob wanted k o ≡ true → has_kind ob.params wanted o ≡ true
  unfolding lists_keeps
  kind_kept ob wanted k o e = (and_parts _ _ (and_parts (has_kind ob.params kind.Stmt k) _ e).1).0

-- a parameter that stands for a name is filled by one
name_filling : (k : Kind) (f : Filling) → fits_kind k f ≡ true → kind_is kind.Name k ≡ true → (name : Name) × (f ≡ filling.Name name)
name_filling kind.Name (filling.Name x) fits e = (x, λ j. filling.Name x)
name_filling kind.Name (filling.Expr x) fits e = absurd (true≢false (sym fits))
name_filling kind.Name (filling.Test x) fits e = absurd (true≢false (sym fits))
name_filling kind.Name (filling.Stmt x) fits e = absurd (true≢false (sym fits))
name_filling kind.Expr f fits e = absurd (true≢false (sym e))
name_filling kind.Test f fits e = absurd (true≢false (sym e))
name_filling kind.Stmt f fits e = absurd (true≢false (sym e))

name_filled : (params : List Kind) (fillings : List Filling) (x : ℕ) → fits_kinds params fillings ≡ true → has_kind params kind.Name x ≡ true → (name : Name) × (slice_get fillings x ≡ Some (filling.Name name))
name_filled [] fillings x fits e = absurd (true≢false (sym e))
name_filled (k ∷ ks) [] x fits e = absurd (true≢false (sym fits))
name_filled (k ∷ ks) (f ∷ fs) zero fits e = let p = name_filling k f (and_parts _ _ fits).0 e in (p.0, ap Some p.1)
name_filled (k ∷ ks) (f ∷ fs) (suc x) fits e = name_filled ks fs x (and_parts (fits_kind k f) _ fits).1 e

pub no_indices : (is : ValueTerms) → count is ≡ 0 → is ≡ no_terms
no_indices no_terms e = refl
no_indices (term v vs) e = absurd (omega arith)

module _ (A : Type 0) (i : Instance) (T : List Entry) (l r : Store) (faithful : Faithful A i T) (ob : Obligation) (meets : Each (Meets i) ob.conditions) where
  abbrev V : ValueTerm → ValueTerm → Type 0
  V a b = value_of i T l r a ≡ value_of i T l r b

  abbrev N : ℕ → List ℕ
  N x = spelled (name_at i x)

  abbrev Failing : List Signed → Type 0
  Failing clause = Each (Fails i T l r) clause

  abbrev Covering : List Signed → Type 0
  Covering clause = Each (Covers i T l r) clause

  end_covered : (s : StoreTerm) → Covers i T l r (minus (Ends s)) → CoversStore i T l r s
  unfolding CoversAtom
  end_covered s c = c

  store_covered : (a b : StoreTerm) → Covers i T l r (plus (SameStore a b)) → CoversStore i T l r a × CoversStore i T l r b
  unfolding CoversAtom
  store_covered a b c = c

  -- the value is that of the term
  concluded : (a b w : ValueTerm) → V a b → w ≡ b → Fails i T l r (plus (SameValue a w)) → A
  concluded a b w same e fails = values_concluded i T l r A a w (same ∙ ap (value_of i T l r) (sym e)) fails

  pub law_11_true : (clause : List Signed) → law_11 ob clause ≡ true → Covering clause → Failing clause → A
  unfolding law_11
  law_11_true (minus (Ends (run k s)) ∷ plus (SameValue (ev e t) w) ∷ []) h c none =
      let p = and_parts (lists_keeps ob kind.Expr k e) _ h in
      let q = and_parts (is_run t k s) _ p.1 in
      let same : V (ev e (run k s)) (ev e s) = run_keeps_value A i T l r faithful k s (end_covered (run k s) c.0) (end_met i T l r (run k s) none.0) e (kept i ob meets kind.Expr k e p.0) in
      concluded (ev e t) (ev e s) w (ap (λ u. value_of i T l r (ev e u)) (run_is t k s q.0) ∙ same) (ev_is w e s q.1) none.1.0
  law_11_true _ h c none = absurd (true≢false (sym h))

  pub law_12_true : fits_kinds ob.params i.fillings ≡ true → (clause : List Signed) → law_12 ob clause ≡ true → Covering clause → Failing clause → A
  unfolding law_12
  law_12_true fits (minus (Ends (run k s)) ∷ plus (SameValue (get x is t) w) ∷ []) h c none =
      let m = and_parts (count is == 0) _ h in
      let p = and_parts (lists_keeps ob kind.Name k x) _ m.1 in
      let q = and_parts (is_run t k s) _ p.1 in
      let name = name_filled ob.params i.fillings x fits (kind_kept i ob kind.Name k x p.0) in
      let bare = no_indices is (number_is (count is) 0 m.0) in
      let same : V (get x no_terms (run k s)) (get x no_terms s) = run_keeps_variable A i T l r faithful k s (end_covered (run k s) c.0) (end_met i T l r (run k s) none.0) x name.0 name.1 (kept i ob meets kind.Name k x p.0) in
      let same_here : V (get x is (run k s)) (get x is s) = subst (λ z. V (get x z (run k s)) (get x z s)) (sym bare) same in
      concluded (get x is t) (get x is s) w (ap (λ u. value_of i T l r (get x is u)) (run_is t k s q.0) ∙ same_here) (get_is w x is s q.1) none.1.0
  law_12_true fits _ h c none = absurd (true≢false (sym h))

  -- a test that holds at one store does at the other
  abbrev HoldsAlike : ℕ → StoreTerm → StoreTerm → Type 0
  HoldsAlike q a b = atom_truth i T l r (Holds q a) ≡ atom_truth i T l r (Holds q b)

  test_concluded : (q p : ℕ) (a b : StoreTerm) → p ≡ q → HoldsAlike q a b → Fails i T l r (minus (Holds q a)) → Fails i T l r (plus (Holds p b)) → A
  test_concluded q p a b number same holds fails =
      absurd (true≢false (sym (not_false _ holds) ∙ same ∙ ap (λ z. atom_truth i T l r (Holds z b)) (sym number) ∙ fails))

  pub law_13_true : (clause : List Signed) → law_13 ob clause ≡ true → Covering clause → Failing clause → A
  unfolding law_13
  law_13_true (minus (Ends (run k s)) ∷ minus (Holds q a) ∷ plus (Holds p b) ∷ []) h c none =
      let o = and_parts (lists_keeps ob kind.Test k q) _ h in
      let n = and_parts (p == q) _ o.1 in
      let same : HoldsAlike q (run k s) s = run_keeps_test A i T l r faithful k s (end_covered (run k s) c.0) (end_met i T l r (run k s) none.0) q (kept i ob meets kind.Test k q o.0) in
      let truth = λ (u : StoreTerm). atom_truth i T l r (Holds q u) in
      let alike : HoldsAlike q a b =
      elim (or_cases (store_same a s && is_run b k s) (is_run a k s && store_same b s) n.1) as (λ _. HoldsAlike q a b) [
        | inl f ↦ let g = and_parts (store_same a s) _ f in ap truth (store_is a s g.0) ∙ sym same ∙ sym (ap truth (run_is b k s g.1))
        | inr f ↦ let g = and_parts (is_run a k s) _ f in ap truth (run_is a k s g.0) ∙ same ∙ sym (ap truth (store_is b s g.1))
      ] in
      test_concluded q p a b (number_is p q n.0) alike none.1.0 none.1.1.0
  law_13_true _ h c none = absurd (true≢false (sym h))

  pub law_14_true : (clause : List Signed) → law_14 ob clause ≡ true → Failing clause → A
  unfolding law_14
  law_14_true (minus (SameName n x) ∷ plus (SameValue (ev e (put s y is v)) w) ∷ []) h none =
      let p = and_parts (lists_ignores ob kind.Expr e x) _ h in
      let q = and_parts (n == y) _ p.1 in
      let names : N y ≡ N x = ap N (sym (number_is n y q.0)) ∙ names_met i T l r n x none.0 in
      concluded (ev e (put s y is v)) (ev e s) w (write_keeps_ignoring_value i T l r s y is v e x (ignored i ob meets kind.Expr e x p.0) names) (ev_is w e s q.1) none.1.0
  law_14_true _ h none = absurd (true≢false (sym h))

  -- a test that ignores a name, before and behind a write to it
  across_write : (q n x : ℕ) (a b : StoreTerm) → lists_ignores ob kind.Test q x ≡ true → N n ≡ N x → written_at n a b ≡ true → HoldsAlike q b a
  across_write q n x a (put u y is v) listed names h =
      let p = and_parts (n == y) _ h in
      write_keeps_ignoring_test i T l r u y is v q x (ignored i ob meets kind.Test q x listed) (ap N (sym (number_is n y p.0)) ∙ names)
      ∙ ap (λ z. atom_truth i T l r (Holds q z)) (store_is u a p.1)
  across_write q n x a _ listed names h = absurd (true≢false (sym h))

  pub law_15_true : (clause : List Signed) → law_15 ob clause ≡ true → Failing clause → A
  unfolding law_15
  law_15_true (minus (SameName n x) ∷ minus (Holds q a) ∷ plus (Holds p b) ∷ []) h none =
      let o = and_parts (lists_ignores ob kind.Test q x) _ h in
      let m = and_parts (p == q) _ o.1 in
      let names : N n ≡ N x = names_met i T l r n x none.0 in
      let alike : HoldsAlike q a b =
      elim (or_cases (written_at n a b) (written_at n b a) m.1) as (λ _. HoldsAlike q a b) [
        | inl f ↦ sym (across_write q n x a b o.0 names f)
        | inr f ↦ across_write q n x b a o.0 names f
      ] in
      test_concluded q p a b (number_is p q m.0) alike none.1.0 none.1.1.0
  law_15_true _ h none = absurd (true≢false (sym h))

  -- the store is that of the term
  store_concluded : (a b u : StoreTerm) → store_of i T l r a ≡ store_of i T l r b → u ≡ b → Fails i T l r (plus (SameStore a u)) → A
  store_concluded a b u same e fails = stores_concluded i T l r A a u (same ∙ ap (store_of i T l r) (sym e)) fails

  pub law_16_true : (clause : List Signed) → law_16 ob clause ≡ true → Covering clause → Failing clause → A
  unfolding law_16
  law_16_true (minus (SameName n x) ∷ plus (SameStore (run k (put s y is v)) (put u z js w)) ∷ []) h c none =
      let p = and_parts (lists_ignores ob kind.Stmt k x) _ h in
      let q = and_parts (n == y) _ p.1 in
      let f = and_parts (is_run u k s) _ q.1 in
      let g = and_parts (place_same (place z js) (place y is)) _ f.1 in
      let at = place_is (place z js) (place y is) g.0 in
      let other : put u z js w ≡ put (run k s) y is v = λ j. put (run_is u k s f.0 j) ((at j).name) ((at j).indices) (value_is w v g.1 j) in
      let names : N y ≡ N x = ap N (sym (number_is n y q.0)) ∙ names_met i T l r n x none.0 in
      let covers = store_covered (run k (put s y is v)) (put u z js w) c.1.0 in
      run_past_ignored_write A i T l r faithful k x s y is v (ignored i ob meets kind.Stmt k x p.0) names covers.0 (subst (CoversStore i T l r) other covers.1)
      (λ same. store_concluded (run k (put s y is v)) (put (run k s) y is v) (put u z js w) same other none.1.0)
  law_16_true _ h c none = absurd (true≢false (sym h))

  pub law_17_true : (clause : List Signed) → law_17 ob clause ≡ true → Covering clause → Failing clause → A
  unfolding law_17
  law_17_true (minus (Ends (run k s)) ∷ minus (SameName n x) ∷ plus (SameValue (get y js t) w) ∷ []) h c none =
      let o = and_parts (lists_ignores ob kind.Stmt k x) _ h in
      let p = and_parts (n == y) _ o.1 in
      let q = and_parts (is_run t k s) _ p.1 in
      let names : N y ≡ N x = ap N (sym (number_is n y p.0)) ∙ names_met i T l r n x none.1.0 in
      let same : V (get y js (run k s)) (get y js s) = run_keeps_ignored_cell A i T l r faithful k s (end_covered (run k s) c.0) (end_met i T l r (run k s) none.0) x y js (ignored i ob meets kind.Stmt k x o.0) names in
      concluded (get y js t) (get y js s) w (ap (λ u. value_of i T l r (get y js u)) (run_is t k s q.0) ∙ same) (get_is w y js s q.1) none.1.1.0
  law_17_true _ h c none = absurd (true≢false (sym h))

  pub law_18_true : (clause : List Signed) → law_18 ob clause ≡ true → Covering clause → Failing clause → A
  unfolding law_18
  law_18_true (plus (SameStore (run k (run j s)) (run m u)) ∷ []) h c none =
      let p = and_parts (lists_commutes ob j k) _ h in
      let q = and_parts (m == j) _ p.1 in
      let other : run m u ≡ run j (run k s) = λ z. run (number_is m j q.0 z) (run_is u k s q.1 z) in
      let covers = store_covered (run k (run j s)) (run m u) c.0 in
      let covers_other = subst (CoversStore i T l r) other covers.1 in
      elim (commuting i ob meets j k p.0) as (λ _. A) [
        | inl met ↦ runs_in_either_order A i T l r faithful j k s met covers.0 covers_other (λ same. store_concluded (run k (run j s)) (run j (run k s)) (run m u) same other none.0)
        | inr met ↦ runs_in_either_order A i T l r faithful k j s met covers_other covers.0 (λ same. store_concluded (run k (run j s)) (run j (run k s)) (run m u) (sym same) other none.0)
      ]
  law_18_true _ h c none = absurd (true≢false (sym h))

  pub law_19_true : (clause : List Signed) → law_19 ob clause ≡ true → Failing clause → A
  unfolding law_19
  law_19_true (minus (Ends s) ∷ plus (AtMost a (ev e t) b) ∷ []) h none =
      let o = and_parts (lists_positive ob e) _ h in
      let p = and_parts (is_num a (pos 1)) _ o.1 in
      let q = and_parts (store_same t s) _ p.1 in
      let least = at_most_from i T l r (num (pos 1)) (ev e s) (pos 0) (positive_value i T l r e s (positively i ob meets e o.0) (end_met i T l r s none.0)) in
      let same : AtMost a (ev e t) b ≡ AtMost (num (pos 1)) (ev e s) (pos 0) = λ j. AtMost (num_is a (pos 1) p.0 j) (ev e (store_is t s q.0 j)) (integer_is b (pos 0) q.1 j) in
      absurd (true≢false (sym least ∙ ap (atom_truth i T l r) (sym same) ∙ none.1.0))
  law_19_true _ h none = absurd (true≢false (sym h))

  pub law_20_true : (clause : List Signed) → law_20 ob clause ≡ true → Failing clause → A
  unfolding law_20
  law_20_true (minus (Ends a) ∷ minus (Ends c) ∷ plus (SameValue (ev e b) w) ∷ []) h none =
      let o = and_parts (lists_constant ob e) _ h in
      let p = and_parts (store_same b a) _ o.1 in
      let same : V (ev e a) (ev e c) = constant_value i T l r e a c (constantly i ob meets e o.0) (end_met i T l r a none.0) (end_met i T l r c none.1.0) in
      concluded (ev e b) (ev e c) w (ap (λ u. value_of i T l r (ev e u)) (store_is b a p.0) ∙ same) (ev_is w e c p.1) none.1.1.0
  law_20_true _ h none = absurd (true≢false (sym h))

  pub law_21_true : (clause : List Signed) → law_21 ob clause ≡ true → Failing clause → A
  unfolding law_21
  law_21_true (minus (SameName x y) ∷ []) h none =
      let same = names_met i T l r x y none.0 in
      elim (distinctly i ob meets x y h) as (λ _. A) [
        | inl m ↦ absurd (names_distinct i x y m same)
        | inr m ↦ absurd (names_distinct i y x m (sym same))
      ]
  law_21_true _ h none = absurd (true≢false (sym h))
