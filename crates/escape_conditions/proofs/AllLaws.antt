-- All laws hold exactly where the tests of all groups pass: each clause of a law has a form, and each form is of one group.
use Rattle.std.proofs.Common.{◌≡◌, ℕ, zero, suc, Bool, true, false, ◌&&◌, List, [], ◌∷◌, slice_get, ap, subst, sym, refl, true≢false}
use Rattle.std.specs.List.{list_all, list_any}
use Rattle.std.specs.Option.{option_map_or}
use Rattle.std.proofs.lemmas.Bool.{and_parts, and_from}
use Rattle.rule_terms.specs.declared.obligation.Obligation.{Obligation}
use Rattle.law_clauses.specs.Signed.{Signed}
use Rattle.law_clauses.specs.ClauseForms.{Clause, literals, is_allowed, HasForm}
use Rattle.law_clauses.specs.ClauseForms as form
use Rattle.law_clauses.proofs.ClausesHaveForms.{clauses_have_forms}
use Rattle.escape_marks.specs.declared.escape.StoreMark.{StoreMark}
use Rattle.escape_marks.specs.declared.escape.ValueMark.{ValueMark}
use Rattle.escape_marks.specs.declared.escape.Escape.{Escape}
use Rattle.escape_marks.specs.Failing.{IsFirstFailing}
use Rattle.escape_marks.specs.Marks.{signed_true}
use Rattle.escape_marks.specs.LawsHold.{signed_marked, LawsHold}
use Rattle.escape_laws.specs.MarkedLaws.{ends_kept, reads_kept, sums_kept}
use Rattle.escape_laws.specs.ReadBack.{back_kept}
use Rattle.escape_laws.specs.IndexLaw.{index_kept}
use Rattle.escape_laws.specs.WrittenLaw.{written_as_all}
use Rattle.escape_laws.specs.PairLaws.{sides_kept, halts_as_all, exchanges_with_all}
use Rattle.escape_laws.specs.KeptLaws.{HoldsIn}
use Rattle.escape_laws.specs.KeptPairs.{PairsPass}
use Rattle.escape_laws.proofs.KeptLaws.{end_laws_hold, read_laws_hold, sum_laws_hold, laws_pass as three_pass}
use Rattle.escape_laws.proofs.KeptPairs.{pair_laws_hold, pair_laws_pass}
use Rattle.escape_laws.proofs.BackKept.{back_law_holds, back_law_passes}
use Rattle.escape_laws.proofs.IndexKept.{index_law_holds, index_law_passes}
use Rattle.escape_laws.proofs.WrittenKept.{written_law_holds, written_law_passes}
use Rattle.escape_conditions.specs.MarkedConditions.{value_kept, read_kept, test_kept, run_kept, constant_kept, name_kept}
use Rattle.escape_conditions.specs.ConditionsPass.{ConditionsPass}
use Rattle.escape_conditions.specs.LawsPass.{reads_pass, stores_pass, numbers_pass, at_marks_pass, others_pass, laws_pass}
use Rattle.escape_conditions.proofs.ConditionsKept.{condition_laws_hold, condition_laws_pass}

-- where some item is the first that fails, not all pass
fails_somewhere : {X : Type 0} (p : X → Bool) (xs : List X) (k : ℕ) → option_map_or p (slice_get xs k) true ≡ false → list_all p xs ≡ false
fails_somewhere p [] k h = absurd (true≢false h)
fails_somewhere p (x ∷ xs) zero h = ap (λ b. b && list_all p xs) h
fails_somewhere p (x ∷ xs) (suc k) h = later (p x) (fails_somewhere p xs k h)
  where
    later : (a : Bool) {b : Bool} → b ≡ false → a && b ≡ false
    later true e = e
    later false e = refl

pub some_fails : {X : Type 0} (p : X → Bool) (xs : List X) (k : ℕ) → IsFirstFailing p xs k → list_all p xs ≡ false
some_fails p xs k h = fails_somewhere p xs k h.here

module _ (ob : Obligation) (e : Escape) where
  -- the tests, one by one
  record Tests : Type 0 where
    back : list_all (λ (m : ValueMark). back_kept ob.params e m.value) e.values ≡ true
    index : list_all (λ (m : ValueMark). index_kept ob.params e m.value) e.values ≡ true
    reads : list_all (λ (m : ValueMark). reads_kept ob.params e m.value) e.values ≡ true
    ends : list_all (λ (m : StoreMark). ends_kept ob.params e m.store) e.stores ≡ true
    written : list_all (written_as_all ob.params e) e.stores ≡ true
    pairs : PairsPass ob e
    sums : list_all (λ (m : ValueMark). sums_kept ob.params e m.value) e.values ≡ true
    conditions : ConditionsPass ob e

  from_pass : laws_pass ob e ≡ true → Tests
  unfolding laws_pass reads_pass stores_pass numbers_pass at_marks_pass others_pass
  from_pass h =
      let one = and_parts (reads_pass ob.params e) _ h in
      let two = and_parts (stores_pass ob.params e) _ one.1 in
      let three = and_parts (numbers_pass ob.params e) _ two.1 in
      let four = and_parts (at_marks_pass ob e) (others_pass ob e) three.1 in
      let r = and_parts (list_all (λ (m : ValueMark). back_kept ob.params e m.value) e.values) _ one.0 in
      let r2 = and_parts (list_all (λ (m : ValueMark). index_kept ob.params e m.value) e.values) _ r.1 in
      let s = and_parts (sides_kept ob.params e) _ two.0 in
      let s2 = and_parts (list_all (λ (m : StoreMark). ends_kept ob.params e m.store) e.stores) _ s.1 in
      let s3 = and_parts (list_all (halts_as_all ob.params e) e.stores) _ s2.1 in
      let n = and_parts (list_all (exchanges_with_all ob.params e) e.values) _ three.0 in
      let a = and_parts (list_all (λ (m : ValueMark). value_kept ob e m.value) e.values) _ four.0 in
      let a2 = and_parts (list_all (λ (m : ValueMark). read_kept ob e m.value) e.values) _ a.1 in
      let o = and_parts (list_all (λ (m : StoreMark). run_kept ob e m.store) e.stores) _ four.1 in
      let o2 = and_parts (list_all (λ (m : ValueMark). constant_kept ob e m.value) e.values) _ o.1 in
      record {
        back = r.0;
        index = r2.0;
        reads = r2.1;
        ends = s2.0;
        written = s3.1;
        pairs = record { sides = s.0; halts = s3.0; exchanges = n.0 };
        sums = n.1;
        conditions = record { values = a.0; reads = a2.0; tests = a2.1; runs = o.0; constants = o2.0; names = o2.1 };
      }

  by_form : Tests → (c : Clause) → is_allowed ob c ≡ true → HoldsIn ob e c
  by_form t (form.read_back s p v q) allowed = back_law_holds ob e t.back s p v q allowed
  by_form t (form.past_name s p v q) allowed = read_laws_hold ob e t.reads (form.past_name s p v q) refl allowed
  by_form t (form.past_index s p v q a b) allowed = index_law_holds ob e t.index s p v q a b allowed
  by_form t (form.past_count s p v q) allowed = read_laws_hold ob e t.reads (form.past_count s p v q) refl allowed
  by_form t (form.written_alike a c) allowed = written_law_holds ob e t.written a c
  by_form t form.left_ends allowed = pair_laws_hold ob e t.pairs form.left_ends refl
  by_form t form.right_ends allowed = pair_laws_hold ob e t.pairs form.right_ends refl
  by_form t (form.write_ends s p v) allowed = end_laws_hold ob e t.ends (form.write_ends s p v) refl
  by_form t (form.written_ends s p v) allowed = end_laws_hold ob e t.ends (form.written_ends s p v) refl
  by_form t (form.run_starts k s) allowed = end_laws_hold ob e t.ends (form.run_starts k s) refl
  by_form t (form.neither_ends a c) allowed = pair_laws_hold ob e t.pairs (form.neither_ends a c) refl
  by_form t (form.keeps_value k s i) allowed = condition_laws_hold ob e t.conditions (form.keeps_value k s i) refl allowed
  by_form t (form.keeps_variable k s x) allowed = condition_laws_hold ob e t.conditions (form.keeps_variable k s x) refl allowed
  by_form t (form.keeps_test k s q) allowed = condition_laws_hold ob e t.conditions (form.keeps_test k s q) refl allowed
  by_form t (form.keeps_test_back k s q) allowed = condition_laws_hold ob e t.conditions (form.keeps_test_back k s q) refl allowed
  by_form t (form.value_ignores i x s p v) allowed = condition_laws_hold ob e t.conditions (form.value_ignores i x s p v) refl allowed
  by_form t (form.test_ignores q x s p v) allowed = condition_laws_hold ob e t.conditions (form.test_ignores q x s p v) refl allowed
  by_form t (form.test_ignores_back q x s p v) allowed = condition_laws_hold ob e t.conditions (form.test_ignores_back q x s p v) refl allowed
  by_form t (form.run_ignores k x s p v) allowed = condition_laws_hold ob e t.conditions (form.run_ignores k x s p v) refl allowed
  by_form t (form.run_leaves k x s q) allowed = condition_laws_hold ob e t.conditions (form.run_leaves k x s q) refl allowed
  by_form t (form.runs_commute j k s) allowed = condition_laws_hold ob e t.conditions (form.runs_commute j k s) refl allowed
  by_form t (form.at_least_one i s) allowed = condition_laws_hold ob e t.conditions (form.at_least_one i s) refl allowed
  by_form t (form.constant_value i a c) allowed = condition_laws_hold ob e t.conditions (form.constant_value i a c) refl allowed
  by_form t (form.names_differ x y) allowed = condition_laws_hold ob e t.conditions (form.names_differ x y) refl allowed
  by_form t (form.sum_exchanged a b c d) allowed = pair_laws_hold ob e t.pairs (form.sum_exchanged a b c d) refl
  by_form t (form.product_exchanged a b c d) allowed = pair_laws_hold ob e t.pairs (form.product_exchanged a b c d) refl
  by_form t (form.plus_zero a b) allowed = sum_laws_hold ob e t.sums (form.plus_zero a b) refl
  by_form t (form.zero_plus a b) allowed = sum_laws_hold ob e t.sums (form.zero_plus a b) refl
  by_form t (form.zero_times a b) allowed = sum_laws_hold ob e t.sums (form.zero_times a b) refl
  by_form t (form.times_zero a b) allowed = sum_laws_hold ob e t.sums (form.times_zero a b) refl
  by_form t (form.one_times a b) allowed = sum_laws_hold ob e t.sums (form.one_times a b) refl
  by_form t (form.times_one a b) allowed = sum_laws_hold ob e t.sums (form.times_one a b) refl
  by_form t (form.less_itself a b) allowed = sum_laws_hold ob e t.sums (form.less_itself a b) refl

  abbrev Holds : List Signed → Type 0
  Holds xs = list_all (signed_marked e) xs ≡ true → list_any (signed_true ob.params e) xs ≡ true

  pub all_hold : laws_pass ob e ≡ true → LawsHold ob e
  all_hold h = record {
    clause = λ k xs is. let f : HasForm ob k xs = clauses_have_forms ob k xs is in subst Holds (sym f.same) (by_form (from_pass h) f.clause f.allowed);
  }

  pub all_pass : LawsHold ob e → laws_pass ob e ≡ true
  unfolding laws_pass reads_pass stores_pass numbers_pass at_marks_pass others_pass
  all_pass laws =
      let three = three_pass ob e laws in
      let pairs = pair_laws_pass ob e laws in
      let conditions = condition_laws_pass ob e laws in
      and_from (reads_pass ob.params e) _
      (and_from (list_all (λ (m : ValueMark). back_kept ob.params e m.value) e.values) _ (back_law_passes ob e laws) (and_from (list_all (λ (m : ValueMark). index_kept ob.params e m.value) e.values) (list_all (λ (m : ValueMark). reads_kept ob.params e m.value) e.values) (index_law_passes ob e laws) three.1))
      (and_from (stores_pass ob.params e) _
      (and_from (sides_kept ob.params e) _ pairs.sides (and_from (list_all (λ (m : StoreMark). ends_kept ob.params e m.store) e.stores) _ three.0 (and_from (list_all (halts_as_all ob.params e) e.stores) (list_all (written_as_all ob.params e) e.stores) pairs.halts (written_law_passes ob e laws))))
      (and_from (numbers_pass ob.params e) _
      (and_from (list_all (exchanges_with_all ob.params e) e.values) (list_all (λ (m : ValueMark). sums_kept ob.params e m.value) e.values) pairs.exchanges three.2)
      (and_from (at_marks_pass ob e) (others_pass ob e)
      (and_from (list_all (λ (m : ValueMark). value_kept ob e m.value) e.values) _ conditions.values (and_from (list_all (λ (m : ValueMark). read_kept ob e m.value) e.values) (list_all (test_kept ob e) e.tests) conditions.reads conditions.tests))
      (and_from (list_all (λ (m : StoreMark). run_kept ob e m.store) e.stores) _ conditions.runs (and_from (list_all (λ (m : ValueMark). constant_kept ob e m.value) e.values) (list_all (name_kept ob e) ob.conditions) conditions.constants conditions.names)))))
