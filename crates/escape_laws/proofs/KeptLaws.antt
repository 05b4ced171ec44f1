-- The tests at terms and the laws: each clause is one of its trigger term, which has a mark.
use Rattle.std.proofs.Common.{◌≡◌, ℕ, pos, Bool, true, false, not, ◌==◌, ◌&&◌, ◌||◌, is_some, sym, refl, true≢false}
use Rattle.std.specs.List.{list_all}
use Rattle.std.proofs.lemmas.Bool.{and_parts, and_from}
use Rattle.rule_terms.specs.Term.{StoreTerm, left_store, right_store, put, run, ValueTerm, num, get, ev, add, sub, mul, Place}
use Rattle.rule_terms.specs.declared.obligation.Atom.TheVariants.{SameName, SameValue, Ends}
use Rattle.rule_terms.specs.declared.obligation.Obligation.{Obligation}
use Rattle.term_meaning.specs.Indices.{count}
use Rattle.law_clauses.specs.Shapes.{place, put_at, get_at}
use Rattle.law_clauses.specs.ClauseForms.{Clause, literals, law_of, is_allowed}
use Rattle.law_clauses.specs.ClauseForms as form
use Rattle.law_clauses.proofs.FormsAreClauses.{forms_are_clauses}
use Rattle.escape_marks.specs.declared.escape.StoreMark.{StoreMark}
use Rattle.escape_marks.specs.declared.escape.ValueMark.{ValueMark}
use Rattle.escape_marks.specs.declared.escape.Escape.{Escape}
use Rattle.escape_marks.specs.Marks.{store_mark, value_mark}
use Rattle.escape_marks.specs.LawsHold.{is_marked, signed_marked, LawsHold}
use Rattle.escape_laws.specs.MarkedLaws.{keeps, ends_kept, reads_kept, sums_kept}
use Rattle.escape_laws.specs.KeptLaws.{speaks_of_ends, speaks_of_reads, speaks_of_sums, HoldsIn, EndLawsHold, ReadLawsHold, SumLawsHold, LawsPass}
use Rattle.escape_laws.proofs.KeptClauses.{true_of_kept, kept_of_true, store_passes, value_passes, all_pass}

-- the terms of a literal that has marks
pub store_marked : (e : Escape) (s : StoreTerm) → is_marked e (Ends s) ≡ true → is_some (store_mark e.stores s) ≡ true
unfolding is_marked
store_marked e s h = h

pub value_marked : (e : Escape) (v w : ValueTerm) → is_marked e (SameValue v w) ≡ true → is_some (value_mark e.values v) ≡ true
unfolding is_marked
value_marked e v w h = (and_parts (is_some (value_mark e.values v)) (is_some (value_mark e.values w)) h).0

pub second : (a b : Bool) → (a && (b && true)) ≡ true → b ≡ true
second a b h = (and_parts b true (and_parts a (b && true) h).1).0

pub first : (a b : Bool) → (a && b) ≡ true → a ≡ true
first a b h = (and_parts a b h).0

module _ (ob : Obligation) (e : Escape) where
  abbrev kept_in : Clause → Type 0
  kept_in c = keeps ob.params e c ≡ true

  pub holds : (c : Clause) → kept_in c → HoldsIn ob e c
  holds c k m = true_of_kept ob.params e (literals c) m k

  -- ---- from the tests to the laws
  at_write : (s : StoreTerm) (p : Place) (v : ValueTerm) → ends_kept ob.params e (put_at s p v) ≡ true → kept_in (form.write_ends s p v) × kept_in (form.written_ends s p v)
  unfolding ends_kept
  at_write s p v h = and_parts (keeps ob.params e (form.write_ends s p v)) (keeps ob.params e (form.written_ends s p v)) h

  at_run : (k : ℕ) (s : StoreTerm) → ends_kept ob.params e (run k s) ≡ true → kept_in (form.run_starts k s)
  unfolding ends_kept
  at_run k s h = h

  ends_hold : list_all (λ (m : StoreMark). ends_kept ob.params e m.store) e.stores ≡ true → (c : Clause) → speaks_of_ends c ≡ true → HoldsIn ob e c
  ends_hold h (form.write_ends s p v) is m =
      let t = store_marked e (put_at s p v) (second (is_marked e (Ends s)) (is_marked e (Ends (put_at s p v))) m) in
      holds (form.write_ends s p v) (at_write s p v (store_passes (ends_kept ob.params e) e.stores (put_at s p v) h t)).0 m
  ends_hold h (form.written_ends s p v) is m =
      let t = store_marked e (put_at s p v) (first (is_marked e (Ends (put_at s p v))) _ m) in
      holds (form.written_ends s p v) (at_write s p v (store_passes (ends_kept ob.params e) e.stores (put_at s p v) h t)).1 m
  ends_hold h (form.run_starts k s) is m =
      let t = store_marked e (run k s) (first (is_marked e (Ends (run k s))) _ m) in
      holds (form.run_starts k s) (at_run k s (store_passes (ends_kept ob.params e) e.stores (run k s) h t)) m
  ends_hold h _ is m = absurd (true≢false (sym is))

  -- a read behind a write
  by_count : (c k : Bool) → (c || k) ≡ true → c ≡ false → k ≡ true
  by_count true k h n = absurd (true≢false n)
  by_count false k h n = h

  not_counts : (c : Bool) → not c ≡ true → c ≡ false
  not_counts true h = absurd (true≢false (sym h))
  not_counts false h = refl

  at_read : (s : StoreTerm) (p : Place) (v : ValueTerm) (q : Place) → reads_kept ob.params e (get_at q (put_at s p v)) ≡ true → kept_in (form.past_name s p v q) × ((count q.indices == count p.indices || keeps ob.params e (form.past_count s p v q)) ≡ true)
  unfolding reads_kept
  at_read s p v q h = and_parts (keeps ob.params e (form.past_name s p v q)) (count q.indices == count p.indices || keeps ob.params e (form.past_count s p v q)) h

  reads_hold : list_all (λ (m : ValueMark). reads_kept ob.params e m.value) e.values ≡ true → (c : Clause) → speaks_of_reads c ≡ true → is_allowed ob c ≡ true → HoldsIn ob e c
  reads_hold h (form.past_name s p v q) is allowed m =
      let t = value_marked e (get_at q (put_at s p v)) (get_at q s) (second (is_marked e (SameName q.name p.name)) (is_marked e (SameValue (get_at q (put_at s p v)) (get_at q s))) m) in
      holds (form.past_name s p v q) (at_read s p v q (value_passes (reads_kept ob.params e) e.values (get_at q (put_at s p v)) h t)).0 m
  reads_hold h (form.past_count s p v q) is allowed m =
      let t = value_marked e (get_at q (put_at s p v)) (get_at q s) (first (is_marked e (SameValue (get_at q (put_at s p v)) (get_at q s))) true m) in
      holds (form.past_count s p v q) (by_count (count q.indices == count p.indices) _ (at_read s p v q (value_passes (reads_kept ob.params e) e.values (get_at q (put_at s p v)) h t)).1 (not_counts (count q.indices == count p.indices) allowed)) m
  reads_hold h _ is allowed m = absurd (true≢false (sym is))

  -- sums, products and differences
  at_sum : (a b : ValueTerm) → sums_kept ob.params e (add a b) ≡ true → kept_in (form.plus_zero a b) × kept_in (form.zero_plus a b)
  unfolding sums_kept
  at_sum a b h = and_parts (keeps ob.params e (form.plus_zero a b)) (keeps ob.params e (form.zero_plus a b)) h

  at_product : (a b : ValueTerm) → sums_kept ob.params e (mul a b) ≡ true → kept_in (form.zero_times a b) × kept_in (form.times_zero a b) × kept_in (form.one_times a b) × kept_in (form.times_one a b)
  unfolding sums_kept
  at_product a b h =
      let one = and_parts (keeps ob.params e (form.zero_times a b)) (keeps ob.params e (form.times_zero a b) && (keeps ob.params e (form.one_times a b) && keeps ob.params e (form.times_one a b))) h in
      let two = and_parts (keeps ob.params e (form.times_zero a b)) (keeps ob.params e (form.one_times a b) && keeps ob.params e (form.times_one a b)) one.1 in
      let three = and_parts (keeps ob.params e (form.one_times a b)) (keeps ob.params e (form.times_one a b)) two.1 in
      (one.0, two.0, three.0, three.1)

  at_difference : (a b : ValueTerm) → sums_kept ob.params e (sub a b) ≡ true → kept_in (form.less_itself a b)
  unfolding sums_kept
  at_difference a b h = h

  -- the sum, product or difference of a clause has a mark, and passes
  passes : list_all (λ (m : ValueMark). sums_kept ob.params e m.value) e.values ≡ true → (a b t w : ValueTerm) → list_all (signed_marked e) (form.if_equal a b (form.equal_values t w)) ≡ true → sums_kept ob.params e t ≡ true
  passes h a b t w m = value_passes (sums_kept ob.params e) e.values t h (value_marked e t w (second (is_marked e (SameValue a b)) (is_marked e (SameValue t w)) m))

  sums_hold : list_all (λ (m : ValueMark). sums_kept ob.params e m.value) e.values ≡ true → (c : Clause) → speaks_of_sums c ≡ true → HoldsIn ob e c
  sums_hold h (form.plus_zero a b) is m = holds (form.plus_zero a b) (at_sum a b (passes h b (num (pos 0)) (add a b) a m)).0 m
  sums_hold h (form.zero_plus a b) is m = holds (form.zero_plus a b) (at_sum a b (passes h a (num (pos 0)) (add a b) b m)).1 m
  sums_hold h (form.zero_times a b) is m = holds (form.zero_times a b) (at_product a b (passes h a (num (pos 0)) (mul a b) (num (pos 0)) m)).0 m
  sums_hold h (form.times_zero a b) is m = holds (form.times_zero a b) (at_product a b (passes h b (num (pos 0)) (mul a b) (num (pos 0)) m)).1 m
  sums_hold h (form.one_times a b) is m = holds (form.one_times a b) (at_product a b (passes h a (num (pos 1)) (mul a b) b m)).2 m
  sums_hold h (form.times_one a b) is m = holds (form.times_one a b) (at_product a b (passes h b (num (pos 1)) (mul a b) a m)).3 m
  sums_hold h (form.less_itself a b) is m = holds (form.less_itself a b) (at_difference a b (passes h a b (sub a b) (num (pos 0)) m)) m
  sums_hold h _ is m = absurd (true≢false (sym is))

  -- ---- from the laws to the tests
  pub kept_by : LawsHold ob e → (c : Clause) → is_allowed ob c ≡ true → kept_in c
  kept_by laws c allowed = kept_of_true ob.params e (literals c) (laws.clause (law_of c) (literals c) (forms_are_clauses ob c allowed))

  all_ends : LawsHold ob e → (s : StoreTerm) → ends_kept ob.params e s ≡ true
  unfolding ends_kept
  all_ends laws left_store = refl
  all_ends laws right_store = refl
  all_ends laws (put s x is v) = and_from (keeps ob.params e (form.write_ends s (place x is) v)) (keeps ob.params e (form.written_ends s (place x is) v)) (kept_by laws (form.write_ends s (place x is) v) refl) (kept_by laws (form.written_ends s (place x is) v) refl)
  all_ends laws (run k s) = kept_by laws (form.run_starts k s) refl

  counted : (c k : Bool) → (not c ≡ true → k ≡ true) → (c || k) ≡ true
  counted true k f = refl
  counted false k f = f refl

  all_reads : LawsHold ob e → (v : ValueTerm) → reads_kept ob.params e v ≡ true
  unfolding reads_kept
  all_reads laws (get y js (put s x is v)) =
      and_from (keeps ob.params e (form.past_name s (place x is) v (place y js))) (count js == count is || keeps ob.params e (form.past_count s (place x is) v (place y js)))
      (kept_by laws (form.past_name s (place x is) v (place y js)) refl)
      (counted (count js == count is) (keeps ob.params e (form.past_count s (place x is) v (place y js))) (λ n. kept_by laws (form.past_count s (place x is) v (place y js)) n))
  all_reads laws (get y js left_store) = refl
  all_reads laws (get y js right_store) = refl
  all_reads laws (get y js (run k s)) = refl
  all_reads laws (num z) = refl
  all_reads laws (ev k s) = refl
  all_reads laws (add a b) = refl
  all_reads laws (sub a b) = refl
  all_reads laws (mul a b) = refl

  all_sums : LawsHold ob e → (v : ValueTerm) → sums_kept ob.params e v ≡ true
  unfolding sums_kept
  all_sums laws (num z) = refl
  all_sums laws (get y js s) = refl
  all_sums laws (ev k s) = refl
  all_sums laws (add a b) = and_from (keeps ob.params e (form.plus_zero a b)) (keeps ob.params e (form.zero_plus a b)) (kept_by laws (form.plus_zero a b) refl) (kept_by laws (form.zero_plus a b) refl)
  all_sums laws (sub a b) = kept_by laws (form.less_itself a b) refl
  all_sums laws (mul a b) =
      and_from (keeps ob.params e (form.zero_times a b)) _ (kept_by laws (form.zero_times a b) refl)
      (and_from (keeps ob.params e (form.times_zero a b)) _ (kept_by laws (form.times_zero a b) refl)
      (and_from (keeps ob.params e (form.one_times a b)) (keeps ob.params e (form.times_one a b)) (kept_by laws (form.one_times a b) refl) (kept_by laws (form.times_one a b) refl)))

pub end_laws_hold : EndLawsHold
end_laws_hold ob e h c is = ends_hold ob e h c is

pub read_laws_hold : ReadLawsHold
read_laws_hold ob e h c is allowed = reads_hold ob e h c is allowed

pub sum_laws_hold : SumLawsHold
sum_laws_hold ob e h c is = sums_hold ob e h c is

pub laws_pass : LawsPass
laws_pass ob e laws = (
  all_pass (λ (m : StoreMark). ends_kept ob.params e m.store) e.stores (λ m. all_ends ob e laws m.store),
  all_pass (λ (m : ValueMark). reads_kept ob.params e m.value) e.values (λ m. all_reads ob e laws m.value),
  all_pass (λ (m : ValueMark). sums_kept ob.params e m.value) e.values (λ m. all_sums ob e laws m.value),
)
