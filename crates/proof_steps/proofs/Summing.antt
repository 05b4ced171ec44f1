-- Rows of a sum are true bounds, and so is what they add up to; of two bounds, one each way, equality; and what can't be.
use Rattle.std.specs.Prelude.{◌≡◌, ℤ, pos, neg_ℤ, ◌+ℤ◌, ◌-ℤ◌, ◌≤ℤ◌, ◌<ℤ◌, Bool, true, false, List, [], ◌∷◌, Option, Some, None, int_le, int_lt, refl}
use Rattle.std.specs.Ordering.{int_eq}
use Rattle.std.proofs.Common.{sym, ◌∙◌, ap, subst, true≢false, arith}
use Rattle.std.proofs.lemmas.Bool.{and_parts}
use Rattle.std.proofs.lemmas.Int.{ints}
use Rattle.toy_imp.specs.declared.instance.Instance.{Instance}
use Rattle.toy_imp.specs.Store.{Store}
use Rattle.rule_terms.specs.Term.{ValueTerm, num, add, sub}
use Rattle.rule_terms.specs.Order.{value_same}
use Rattle.rule_terms.specs.declared.obligation.Atom.TheVariants.{SameValue, AtMost}
use Rattle.term_meaning.specs.Table.{Entry}
use Rattle.term_meaning.specs.Meaning.{value_of, atom_truth}
use Rattle.term_meaning.proofs.Truths.{int_least, values_equal, values_from, at_most, at_most_from}
use Rattle.law_clauses.specs.Signed.{Signed, plus, minus}
use Rattle.law_clauses.proofs.Same.{not_true, integer_is, value_is}
use Rattle.law_clauses.proofs.Each.{Each, IfThere}
use Rattle.law_clauses.proofs.Meant.{IsTrueHere}
use Rattle.refutations.specs.declared.refutation.Step.{Step}
use Rattle.refutations.specs.declared.refutation.SumRow.{SumRow}
use Rattle.refutations.specs.declared.refutation.SumRow.TheVariants.{Of, Back, Num, Off, OffBack}
use Rattle.law_clauses.specs.Offsets.{offset}
use Rattle.proof_steps.specs.Cited.{fact}
use Rattle.proof_steps.specs.Sums.{Bound, bound_of, bound_back, over, under, row_bound, goes_on, goes_on_by, adds_up}
use Rattle.proof_steps.specs.Steps.{met, has_rows, summed}
use Rattle.proof_steps.specs.Refutes.{is_absurd}
use Rattle.proof_steps.proofs.Citing.{StepIsTrue, fact_true}

-- ---- over whole numbers
not_least : (a b : ℤ) → int_le a b ≡ false → b <ℤ a
not_least a b e = grind (arith, ints)

less : (a b : ℤ) → int_lt a b ≡ true → a <ℤ b
less a b e = grind (arith, ints)

equal_bound : (a b : ℤ) → a ≡ b → a ≤ℤ (b +ℤ pos 0)
equal_bound a b e = omega (arith, ints)

other_way : (a b c : ℤ) → (a +ℤ c) <ℤ b → a ≤ℤ (b +ℤ (neg_ℤ c -ℤ pos 1))
other_way a b c h = omega (arith, ints)

constants : (a b : ℤ) → a ≤ℤ (b +ℤ (a -ℤ b))
constants a b = omega (arith, ints)

sum_first : (a c : ℤ) → (c +ℤ a) ≡ (a +ℤ c)
sum_first a c = omega (arith, ints)

sum_less : (a c : ℤ) → (a -ℤ c) ≡ (a +ℤ neg_ℤ c)
sum_less a c = omega (arith, ints)

over_bound : (v a c : ℤ) → v ≡ (a +ℤ c) → v ≤ℤ (a +ℤ c)
over_bound v a c e = omega (arith, ints)

under_bound : (v a c : ℤ) → v ≡ (a +ℤ c) → a ≤ℤ (v +ℤ neg_ℤ c)
under_bound v a c e = omega (arith, ints)

last_bound : (x a z sum c : ℤ) → x ≤ℤ (a +ℤ sum) → a ≡ z → sum ≤ℤ c → x ≤ℤ (z +ℤ c)
last_bound x a z sum c h e k = omega (arith, ints)

next_bound : (x a low high sum by : ℤ) → x ≤ℤ (a +ℤ sum) → low ≡ a → low ≤ℤ (high +ℤ by) → x ≤ℤ (high +ℤ (sum +ℤ by))
next_bound x a low high sum by h e k = omega (arith, ints)

start : (a : ℤ) → a ≤ℤ (a +ℤ pos 0)
start a = omega (arith, ints)

both_ways : (a b c f : ℤ) → c ≡ pos 0 → f ≡ pos 0 → a ≤ℤ (b +ℤ c) → b ≤ℤ (a +ℤ f) → a ≡ b
both_ways a b c f g h p q = omega (arith, ints)

no_such : (a b c : ℤ) → a ≡ b → c <ℤ pos 0 → a ≤ℤ (b +ℤ c) → ⊥
no_such a b c e f g = omega (arith, ints)

module _ (i : Instance) (T : List Entry) (l r : Store) where
  abbrev Value : ValueTerm → ℤ
  Value v = value_of i T l r v

  abbrev BoundHolds : Bound → Type 0
  BoundHolds b = Value b.low ≤ℤ (Value b.high +ℤ b.by)

  not_at_most : (a b : ValueTerm) (c : ℤ) → atom_truth i T l r (AtMost a b c) ≡ false → (Value b +ℤ c) <ℤ Value a
  unfolding atom_truth
  not_at_most a b c e = not_least _ _ e

  bound_of_true : (o : Option Signed) → IfThere (IsTrueHere i T l r) o → IfThere BoundHolds (bound_of o)
  unfolding bound_of
  bound_of_true (Some (plus (SameValue a b))) h = equal_bound _ _ (values_equal i T l r a b h)
  bound_of_true (Some (plus (AtMost a b c))) h = at_most i T l r a b c h
  bound_of_true (Some (minus (AtMost b a c))) h = other_way _ _ c (not_at_most b a c (not_true _ h))
  bound_of_true _ h = tt

  bound_back_true : (o : Option Signed) → IfThere (IsTrueHere i T l r) o → IfThere BoundHolds (bound_back o)
  unfolding bound_back
  bound_back_true (Some (plus (SameValue a b))) h = equal_bound _ _ (sym (values_equal i T l r a b h))
  bound_back_true _ h = tt

  -- an offset term is the term and the constant
  offset_is : (v : ValueTerm) → IfThere (λ (o : ValueTerm × ℤ). Value v ≡ (Value o.0 +ℤ o.1)) (offset v)
  unfolding offset value_of
  offset_is (add a (num c)) = refl
  offset_is (add (num c) a) = sum_first _ c
  offset_is (sub a (num c)) = sum_less _ c
  offset_is _ = tt

  over_true : (v : ValueTerm) (o : Option (ValueTerm × ℤ)) → IfThere (λ (p : ValueTerm × ℤ). Value v ≡ (Value p.0 +ℤ p.1)) o → IfThere BoundHolds (over v o)
  over_true v None h = tt
  over_true v (Some o) h = over_bound _ _ o.1 h

  under_true : (v : ValueTerm) (o : Option (ValueTerm × ℤ)) → IfThere (λ (p : ValueTerm × ℤ). Value v ≡ (Value p.0 +ℤ p.1)) o → IfThere BoundHolds (under v o)
  under_true v None h = tt
  under_true v (Some o) h = under_bound _ _ o.1 h

  module _ (earlier : List Step) (all_true : Each (StepIsTrue i T l r) earlier) where
    row_true : (row : SumRow) → IfThere BoundHolds (row_bound earlier row)
    unfolding row_bound value_of
    row_true (Of k) = bound_of_true (fact earlier k) (fact_true i T l r earlier k all_true)
    row_true (Back k) = bound_back_true (fact earlier k) (fact_true i T l r earlier k all_true)
    row_true (Num a b) = constants a b
    row_true (Off v) = over_true v (offset v) (offset_is v)
    row_true (OffBack v) = under_true v (offset v) (offset_is v)

    -- what is at most a value with a sum stays so along the rows
    by_row : (o : Option Bound) → IfThere BoundHolds o → (a : ValueTerm) (sum : ℤ) (next : ValueTerm → ℤ → Bool) → goes_on_by o a sum next ≡ true → (x : ℤ) → x ≤ℤ (Value a +ℤ sum) → (B : Type 0) → ((b : ValueTerm) (more : ℤ) → next b more ≡ true → x ≤ℤ (Value b +ℤ more) → B) → B
    by_row None h a sum next e x low B ret = absurd (true≢false (sym e))
    by_row (Some b) h a sum next e x low B ret =
        let p = and_parts (goes_on b a sum) _ e in
        let q = and_parts (value_same b.low a) _ p.0 in
        ret b.high (sum +ℤ b.by) p.1 (next_bound x (Value a) (Value b.low) (Value b.high) sum b.by low (ap (value_of i T l r) (value_is b.low a q.0)) h)

    added_true : (rows : List SumRow) (a : ValueTerm) (sum : ℤ) (z : ValueTerm) (c : ℤ) → adds_up earlier rows a sum z c ≡ true → (x : ℤ) → x ≤ℤ (Value a +ℤ sum) → x ≤ℤ (Value z +ℤ c)
    unfolding adds_up
    added_true [] a sum z c e x low =
        let p = and_parts (value_same a z) _ e in
        last_bound x (Value a) (Value z) sum c low (ap (value_of i T l r) (value_is a z p.0)) (int_least sum c p.1)
    added_true (row ∷ rows) a sum z c e x low =
        by_row (row_bound earlier row) (row_true row) a sum (λ b more. adds_up earlier rows b more z c) e x low (x ≤ℤ (Value z +ℤ c)) (λ b more f at. added_true rows b more z c f x at)

    pub summed_true : (rows : List SumRow) (x : Signed) → summed earlier rows x ≡ true → IsTrueHere i T l r x
    unfolding summed
    summed_true rows (plus (AtMost a z c)) e =
        let p = and_parts (has_rows rows) _ e in
        at_most_from i T l r a z c (added_true rows a (pos 0) z c p.1 (Value a) (start (Value a)))
    summed_true rows _ e = absurd (true≢false (sym e))

  pub met_true : (o p : Option Signed) (x : Signed) → met o p x ≡ true → IfThere (IsTrueHere i T l r) o → IfThere (IsTrueHere i T l r) p → IsTrueHere i T l r x
  unfolding met
  met_true (Some (plus (AtMost a b c))) (Some (plus (AtMost d e f))) (plus (SameValue p q)) h one two =
      let g = and_parts (int_eq c (pos 0)) _ h in
      let g2 = and_parts (int_eq f (pos 0)) _ g.1 in
      let g3 = and_parts (value_same d b) _ g2.1 in
      let g4 = and_parts (value_same e a) _ g3.1 in
      let g5 = and_parts (value_same p a) _ g4.1 in
      let back : Value b ≤ℤ (Value a +ℤ f) = subst (λ v. Value v ≤ℤ (Value a +ℤ f)) (value_is d b g3.0) (subst (λ v. Value d ≤ℤ (Value v +ℤ f)) (value_is e a g4.0) (at_most i T l r d e f two)) in
      let same : Value a ≡ Value b = both_ways _ _ c f (integer_is c (pos 0) g.0) (integer_is f (pos 0) g2.0) (at_most i T l r a b c one) back in
      values_from i T l r p q (ap (value_of i T l r) (value_is p a g5.0) ∙ same ∙ sym (ap (value_of i T l r) (value_is q b g5.1)))
  met_true _ _ _ h one two = absurd (true≢false (sym h))

  -- no value is at most itself less something
  pub absurd_fails : (x : Signed) → is_absurd x ≡ true → IsTrueHere i T l r x → ⊥
  unfolding is_absurd
  absurd_fails (plus (AtMost a b c)) e h =
      let p = and_parts (value_same a b) _ e in
      no_such _ _ c (ap (value_of i T l r) (value_is a b p.0)) (less c (pos 0) p.1) (at_most i T l r a b c h)
  absurd_fails _ e h = absurd (true≢false (sym e))
