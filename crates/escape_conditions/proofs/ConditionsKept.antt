-- The tests at terms and the laws of the side conditions: each clause is one of its trigger, a term that has a mark, or of a condition.
use Rattle.std.proofs.Common.{◌≡◌, ℕ, pos, Bool, true, false, cond, not, ◌==◌, ◌&&◌, ◌||◌, List, [], ◌∷◌, Some, is_some, sym, ◌∙◌, subst, refl, true≢false}
use Rattle.std.specs.List.{list_all}
use Rattle.std.proofs.lemmas.Bool.{and_parts, and_from}
use Rattle.toy_imp.specs.declared.condition.Condition.{Condition}
use Rattle.toy_imp.specs.declared.condition.Condition.TheVariants.{Ignores, Distinct}
use Rattle.toy_imp.specs.declared.param.Kind.TheVariants as kind
use Rattle.rule_terms.specs.Term.{StoreTerm, left_store, right_store, put, run, ValueTerm, num, get, ev, add, sub, mul, ValueTerms, no_terms, term, Place}
use Rattle.rule_terms.specs.Order.{store_same}
use Rattle.rule_terms.specs.declared.obligation.Atom.TheVariants.{SameName, SameStore, SameValue, AtMost, Ends, Holds}
use Rattle.rule_terms.specs.declared.obligation.Obligation.{Obligation}
use Rattle.law_clauses.specs.Listed.{lists_constant}
use Rattle.law_clauses.specs.Shapes.{place, put_at, get_at}
use Rattle.law_clauses.specs.ClauseForms.{Clause, is_allowed}
use Rattle.law_clauses.specs.ClauseForms as form
use Rattle.law_clauses.proofs.Same.{store_is, number_is}
use Rattle.law_clauses.proofs.Itself.{number_itself}
use Rattle.escape_marks.specs.declared.escape.StoreMark.{StoreMark}
use Rattle.escape_marks.specs.declared.escape.ValueMark.{ValueMark}
use Rattle.escape_marks.specs.declared.escape.TestMark.{TestMark}
use Rattle.escape_marks.specs.declared.escape.Escape.{Escape}
use Rattle.escape_marks.specs.Marks.{store_mark, value_mark, test_mark}
use Rattle.escape_marks.specs.LawsHold.{is_marked, LawsHold}
use Rattle.escape_laws.specs.MarkedLaws.{keeps}
use Rattle.escape_laws.specs.KeptLaws.{HoldsIn}
use Rattle.escape_laws.proofs.KeptClauses.{store_passes, value_passes, all_pass}
use Rattle.escape_laws.proofs.KeptLaws.{value_marked, second, first, holds, kept_by}
use Rattle.escape_conditions.specs.MarkedConditions.{kept, kept_at, kept_at_names, value_stays, value_kept, variable_stays, read_kept, test_stays, test_kept, run_kept, constant_at, constant_as, constant_kept, name_kept}
use Rattle.escape_conditions.specs.ConditionsPass.{speaks_of_conditions, ConditionsPass, ConditionLawsHold, ConditionLawsPass}
use Rattle.escape_conditions.proofs.Listings.{at_name, at_names}

-- ---- tests
behind : (c k : Bool) → (not c || k) ≡ true → c ≡ true → k ≡ true
behind true k h is = h
behind false k h is = absurd (true≢false (sym is))

before : (c k : Bool) → (c ≡ true → k ≡ true) → (not c || k) ≡ true
before true k f = f refl
before false k f = refl

rest : (a b : Bool) → (a && b) ≡ true → b ≡ true
rest a b h = (and_parts a b h).1

third : (a b c : Bool) → (a && (b && (c && true))) ≡ true → c ≡ true
third a b c h = second b c (rest a (b && (c && true)) h)

middle : (a b c : Bool) → (a && (b && c)) ≡ true → b ≡ true
middle a b c h = first b c (rest a (b && c) h)

-- ---- terms that have marks
first_store : (e : Escape) (s t : StoreTerm) → is_marked e (SameStore s t) ≡ true → is_some (store_mark e.stores s) ≡ true
unfolding is_marked
first_store e s t h = first (is_some (store_mark e.stores s)) (is_some (store_mark e.stores t)) h

second_value : (e : Escape) (v w : ValueTerm) → is_marked e (SameValue v w) ≡ true → is_some (value_mark e.values w) ≡ true
unfolding is_marked
second_value e v w h = rest (is_some (value_mark e.values v)) (is_some (value_mark e.values w)) h

greater : (e : Escape) (v w : ValueTerm) → is_marked e (AtMost v w (pos 0)) ≡ true → is_some (value_mark e.values w) ≡ true
unfolding is_marked
greater e v w h = rest (is_some (value_mark e.values v)) (is_some (value_mark e.values w)) h

marked_test : (e : Escape) (q : ℕ) (s : StoreTerm) → is_marked e (Holds q s) ≡ true → is_some (test_mark e.tests q s) ≡ true
unfolding is_marked
marked_test e q s h = h

-- what all marks pass, a test that has a mark passes
test_passes : (p : ℕ → StoreTerm → Bool) (ms : List TestMark) (q : ℕ) (s : StoreTerm) → list_all (λ (m : TestMark). p m.test m.store) ms ≡ true → is_some (test_mark ms q s) ≡ true → p q s ≡ true
unfolding test_mark
test_passes p [] q s h k = absurd (true≢false (sym k))
test_passes p (x ∷ ms) q s h k =
    let parts = and_parts (p x.test x.store) (list_all (λ (m : TestMark). p m.test m.store) ms) h in
    by_test (q == x.test && store_same s x.store) refl k parts.0 (λ f. test_passes p ms q s parts.1 f)
  where
    by_test : (t : Bool) → (q == x.test && store_same s x.store) ≡ t → is_some (cond t (Some x) (test_mark ms q s)) ≡ true → p x.test x.store ≡ true → (is_some (test_mark ms q s) ≡ true → p q s ≡ true) → p q s ≡ true
    by_test true is f here more =
        let same = and_parts (q == x.test) (store_same s x.store) is in
        subst (λ t. t ≡ true) (λ j. p (sym (number_is q x.test same.0) j) (sym (store_is s x.store same.1) j)) here
    by_test false is f here more = more f

module _ (ob : Obligation) (e : Escape) where
  abbrev is_kept_in : Clause → Type 0
  is_kept_in c = kept ob e c ≡ true

  holds_listed : (c : Clause) → is_kept_in c → is_allowed ob c ≡ true → HoldsIn ob e c
  holds_listed c h allowed = holds ob e c (behind (is_allowed ob c) (keeps ob.params e c) h allowed)

  -- ---- what a term's test says
  at_positive : (i : ℕ) (s : StoreTerm) → value_kept ob e (ev i s) ≡ true → is_kept_in (form.at_least_one i s) × (value_stays ob e i s ≡ true)
  unfolding value_kept
  at_positive i s h = and_parts (kept ob e (form.at_least_one i s)) (value_stays ob e i s) h

  at_read : (k : ℕ) (s : StoreTerm) (p : Place) → read_kept ob e (get_at p (run k s)) ≡ true → (variable_stays ob e k s p.name p.indices ≡ true) × (kept_at_names ob e (λ n. form.run_leaves k n s p) ≡ true)
  unfolding read_kept
  at_read k s p h = and_parts (variable_stays ob e k s p.name p.indices) (kept_at_names ob e (λ n. form.run_leaves k n s p)) h

  at_variable : (k : ℕ) (s : StoreTerm) (x : ℕ) → variable_stays ob e k s x no_terms ≡ true → is_kept_in (form.keeps_variable k s x)
  unfolding variable_stays
  at_variable k s x h = h

  tests_row : list_all (test_kept ob e) e.tests ≡ list_all (λ (m : TestMark). test_stays ob e m.test m.store) e.tests
  unfolding test_kept
  tests_row = refl

  at_test_run : (q k : ℕ) (s : StoreTerm) → test_stays ob e q (run k s) ≡ true → is_kept_in (form.keeps_test k s q) × is_kept_in (form.keeps_test_back k s q)
  unfolding test_stays
  at_test_run q k s h = and_parts (kept ob e (form.keeps_test k s q)) (kept ob e (form.keeps_test_back k s q)) h

  at_test_write : (q : ℕ) (s : StoreTerm) (p : Place) (v : ValueTerm) → test_stays ob e q (put_at s p v) ≡ true → (kept_at_names ob e (λ n. form.test_ignores q n s p v) ≡ true) × (kept_at_names ob e (λ n. form.test_ignores_back q n s p v) ≡ true)
  unfolding test_stays
  at_test_write q s p v h = and_parts (kept_at_names ob e (λ n. form.test_ignores q n s p v)) (kept_at_names ob e (λ n. form.test_ignores_back q n s p v)) h

  at_run_write : (k : ℕ) (s : StoreTerm) (p : Place) (v : ValueTerm) → run_kept ob e (run k (put_at s p v)) ≡ true → kept_at_names ob e (λ n. form.run_ignores k n s p v) ≡ true
  unfolding run_kept
  at_run_write k s p v h = h

  at_run_run : (j k : ℕ) (s : StoreTerm) → run_kept ob e (run k (run j s)) ≡ true → is_kept_in (form.runs_commute j k s)
  unfolding run_kept
  at_run_run j k s h = h

  constants_row : (i : ℕ) (a : StoreTerm) → list_all (constant_as ob e i a) e.values ≡ list_all (λ (m : ValueMark). constant_at ob e i a m.value) e.values
  unfolding constant_as
  constants_row i a = refl

  at_constant : (i : ℕ) (a : StoreTerm) → constant_kept ob e (ev i a) ≡ true → lists_constant ob i ≡ true → list_all (constant_as ob e i a) e.values ≡ true
  unfolding constant_kept
  at_constant i a h f = behind (lists_constant ob i) (list_all (constant_as ob e i a) e.values) h f

  -- ---- from the tests to the laws
  value_there : ConditionsPass ob e → (i : ℕ) (s : StoreTerm) → is_some (value_mark e.values (ev i s)) ≡ true → is_kept_in (form.at_least_one i s) × (value_stays ob e i s ≡ true)
  value_there p i s m = at_positive i s (value_passes (value_kept ob e) e.values (ev i s) p.values m)

  read_there : ConditionsPass ob e → (k : ℕ) (s : StoreTerm) (q : Place) → is_some (value_mark e.values (get_at q (run k s))) ≡ true → (variable_stays ob e k s q.name q.indices ≡ true) × (kept_at_names ob e (λ n. form.run_leaves k n s q) ≡ true)
  read_there p k s q m = at_read k s q (value_passes (read_kept ob e) e.values (get_at q (run k s)) p.reads m)

  test_there : ConditionsPass ob e → (q : ℕ) (t : StoreTerm) → is_marked e (Holds q t) ≡ true → test_stays ob e q t ≡ true
  test_there p q t m = test_passes (test_stays ob e) e.tests q t (sym tests_row ∙ p.tests) (marked_test e q t m)

  run_there : ConditionsPass ob e → (t u : StoreTerm) → is_marked e (SameStore t u) ≡ true → run_kept ob e t ≡ true
  run_there p t u m = store_passes (run_kept ob e) e.stores t p.runs (first_store e t u m)

  constant_there : ConditionsPass ob e → (i : ℕ) (a c : StoreTerm) → lists_constant ob i ≡ true → is_marked e (SameValue (ev i a) (ev i c)) ≡ true → keeps ob.params e (form.constant_value i a c) ≡ true
  constant_there p i a c f m =
      let row = at_constant i a (value_passes (constant_kept ob e) e.values (ev i a) p.constants (value_marked e (ev i a) (ev i c) m)) f in
      behind (i == i) (keeps ob.params e (form.constant_value i a c)) (value_passes (constant_at ob e i a) e.values (ev i c) (sym (constants_row i a) ∙ row) (second_value e (ev i a) (ev i c) m)) (number_itself i)

  conditions_hold : ConditionsPass ob e → (c : Clause) → speaks_of_conditions c ≡ true → is_allowed ob c ≡ true → HoldsIn ob e c
  conditions_hold p (form.keeps_value k s i) is allowed m =
      let two = second (is_marked e (Ends (run k s))) (is_marked e (SameValue (ev i (run k s)) (ev i s))) m in
      holds_listed (form.keeps_value k s i) (value_there p i (run k s) (value_marked e (ev i (run k s)) (ev i s) two)).1 allowed m
  conditions_hold p (form.keeps_variable k s x) is allowed m =
      let q = place x no_terms in
      let two = second (is_marked e (Ends (run k s))) (is_marked e (SameValue (get_at q (run k s)) (get_at q s))) m in
      holds_listed (form.keeps_variable k s x) (at_variable k s x (read_there p k s q (value_marked e (get_at q (run k s)) (get_at q s) two)).0) allowed m
  conditions_hold p (form.keeps_test k s q) is allowed m =
      let three = third (is_marked e (Ends (run k s))) (is_marked e (Holds q s)) (is_marked e (Holds q (run k s))) m in
      holds_listed (form.keeps_test k s q) (at_test_run q k s (test_there p q (run k s) three)).0 allowed m
  conditions_hold p (form.keeps_test_back k s q) is allowed m =
      let two = middle (is_marked e (Ends (run k s))) (is_marked e (Holds q (run k s))) (is_marked e (Holds q s) && true) m in
      holds_listed (form.keeps_test_back k s q) (at_test_run q k s (test_there p q (run k s) two)).1 allowed m
  conditions_hold p (form.value_ignores i x s q v) is allowed m =
      let two = second (is_marked e (SameName q.name x)) (is_marked e (SameValue (ev i (put_at s q v)) (ev i s))) m in
      let all = (value_there p i (put_at s q v) (value_marked e (ev i (put_at s q v)) (ev i s) two)).1 in
      holds_listed (form.value_ignores i x s q v) (at_name ob e (λ n. form.value_ignores i n s q v) kind.Expr i x all allowed) allowed m
  conditions_hold p (form.test_ignores b x s q v) is allowed m =
      let three = third (is_marked e (SameName q.name x)) (is_marked e (Holds b s)) (is_marked e (Holds b (put_at s q v))) m in
      let all = (at_test_write b s q v (test_there p b (put_at s q v) three)).0 in
      holds_listed (form.test_ignores b x s q v) (at_name ob e (λ n. form.test_ignores b n s q v) kind.Test b x all allowed) allowed m
  conditions_hold p (form.test_ignores_back b x s q v) is allowed m =
      let two = middle (is_marked e (SameName q.name x)) (is_marked e (Holds b (put_at s q v))) (is_marked e (Holds b s) && true) m in
      let all = (at_test_write b s q v (test_there p b (put_at s q v) two)).1 in
      holds_listed (form.test_ignores_back b x s q v) (at_name ob e (λ n. form.test_ignores_back b n s q v) kind.Test b x all allowed) allowed m
  conditions_hold p (form.run_ignores k x s q v) is allowed m =
      let t = run k (put_at s q v) in
      let u = put_at (run k s) q v in
      let two = second (is_marked e (SameName q.name x)) (is_marked e (SameStore t u)) m in
      holds_listed (form.run_ignores k x s q v) (at_name ob e (λ n. form.run_ignores k n s q v) kind.Stmt k x (at_run_write k s q v (run_there p t u two)) allowed) allowed m
  conditions_hold p (form.run_leaves k x s q) is allowed m =
      let three = third (is_marked e (Ends (run k s))) (is_marked e (SameName q.name x)) (is_marked e (SameValue (get_at q (run k s)) (get_at q s))) m in
      let all = (read_there p k s q (value_marked e (get_at q (run k s)) (get_at q s) three)).1 in
      holds_listed (form.run_leaves k x s q) (at_name ob e (λ n. form.run_leaves k n s q) kind.Stmt k x all allowed) allowed m
  conditions_hold p (form.runs_commute j k s) is allowed m =
      let one = first (is_marked e (SameStore (run k (run j s)) (run j (run k s)))) true m in
      holds_listed (form.runs_commute j k s) (at_run_run j k s (run_there p (run k (run j s)) (run j (run k s)) one)) allowed m
  conditions_hold p (form.at_least_one i s) is allowed m =
      let two = second (is_marked e (Ends s)) (is_marked e (AtMost (num (pos 1)) (ev i s) (pos 0))) m in
      holds_listed (form.at_least_one i s) (value_there p i s (greater e (num (pos 1)) (ev i s) two)).0 allowed m
  conditions_hold p (form.constant_value i a c) is allowed m =
      let three = third (is_marked e (Ends a)) (is_marked e (Ends c)) (is_marked e (SameValue (ev i a) (ev i c))) m in
      holds ob e (form.constant_value i a c) (constant_there p i a c allowed three) m
  conditions_hold p (form.names_differ x y) is allowed m = holds_listed (form.names_differ x y) (at_names ob e x y p.names allowed) allowed m
  conditions_hold p _ is allowed m = absurd (true≢false (sym is))

  -- ---- from the laws to the tests
  listed : LawsHold ob e → (c : Clause) → is_kept_in c
  listed laws c = before (is_allowed ob c) (keeps ob.params e c) (λ n. kept_by ob e laws c n)

  all_names : LawsHold ob e → (clause : ℕ → Clause) → kept_at_names ob e clause ≡ true
  unfolding kept_at_names
  all_names laws clause = all_pass (kept_at ob e clause) ob.conditions each
    where
      each : (c : Condition) → kept_at ob e clause c ≡ true
      each (Ignores k x) = listed laws (clause x)
      each _ = refl

  all_stay : LawsHold ob e → (i : ℕ) (s : StoreTerm) → value_stays ob e i s ≡ true
  all_stay laws i left_store = refl
  all_stay laws i right_store = refl
  all_stay laws i (put s x is v) = all_names laws (λ n. form.value_ignores i n s (place x is) v)
  all_stay laws i (run k s) = listed laws (form.keeps_value k s i)

  all_values : LawsHold ob e → (w : ValueTerm) → value_kept ob e w ≡ true
  unfolding value_kept
  all_values laws (ev i s) = and_from (kept ob e (form.at_least_one i s)) (value_stays ob e i s) (listed laws (form.at_least_one i s)) (all_stay laws i s)
  all_values laws (num z) = refl
  all_values laws (get x is s) = refl
  all_values laws (add a b) = refl
  all_values laws (sub a b) = refl
  all_values laws (mul a b) = refl

  all_variables : LawsHold ob e → (k : ℕ) (s : StoreTerm) (x : ℕ) (is : ValueTerms) → variable_stays ob e k s x is ≡ true
  unfolding variable_stays
  all_variables laws k s x no_terms = listed laws (form.keeps_variable k s x)
  all_variables laws k s x (term v vs) = refl

  all_reads : LawsHold ob e → (w : ValueTerm) → read_kept ob e w ≡ true
  unfolding read_kept
  all_reads laws (get x is (run k s)) = and_from (variable_stays ob e k s x is) (kept_at_names ob e (λ n. form.run_leaves k n s (place x is))) (all_variables laws k s x is) (all_names laws (λ n. form.run_leaves k n s (place x is)))
  all_reads laws (get x is left_store) = refl
  all_reads laws (get x is right_store) = refl
  all_reads laws (get x is (put s y js v)) = refl
  all_reads laws (num z) = refl
  all_reads laws (ev i s) = refl
  all_reads laws (add a b) = refl
  all_reads laws (sub a b) = refl
  all_reads laws (mul a b) = refl

  all_tests : LawsHold ob e → (q : ℕ) (s : StoreTerm) → test_stays ob e q s ≡ true
  unfolding test_stays
  all_tests laws q left_store = refl
  all_tests laws q right_store = refl
  all_tests laws q (put s x is v) = and_from (kept_at_names ob e (λ n. form.test_ignores q n s (place x is) v)) (kept_at_names ob e (λ n. form.test_ignores_back q n s (place x is) v)) (all_names laws (λ n. form.test_ignores q n s (place x is) v)) (all_names laws (λ n. form.test_ignores_back q n s (place x is) v))
  all_tests laws q (run k s) = and_from (kept ob e (form.keeps_test k s q)) (kept ob e (form.keeps_test_back k s q)) (listed laws (form.keeps_test k s q)) (listed laws (form.keeps_test_back k s q))

  all_runs : LawsHold ob e → (t : StoreTerm) → run_kept ob e t ≡ true
  unfolding run_kept
  all_runs laws left_store = refl
  all_runs laws right_store = refl
  all_runs laws (put s x is v) = refl
  all_runs laws (run k left_store) = refl
  all_runs laws (run k right_store) = refl
  all_runs laws (run k (put s x is v)) = all_names laws (λ n. form.run_ignores k n s (place x is) v)
  all_runs laws (run k (run j s)) = listed laws (form.runs_commute j k s)

  one_constant : LawsHold ob e → (i : ℕ) (a : StoreTerm) → lists_constant ob i ≡ true → (w : ValueTerm) → constant_at ob e i a w ≡ true
  one_constant laws i a f (ev j c) = before (i == j) (keeps ob.params e (form.constant_value i a c)) (λ n. kept_by ob e laws (form.constant_value i a c) f)
  one_constant laws i a f (num z) = refl
  one_constant laws i a f (get x is s) = refl
  one_constant laws i a f (add b c) = refl
  one_constant laws i a f (sub b c) = refl
  one_constant laws i a f (mul b c) = refl

  all_constants : LawsHold ob e → (w : ValueTerm) → constant_kept ob e w ≡ true
  unfolding constant_kept
  all_constants laws (ev i a) = before (lists_constant ob i) (list_all (constant_as ob e i a) e.values) (λ n. constants_row i a ∙ all_pass (λ (m : ValueMark). constant_at ob e i a m.value) e.values (λ m. one_constant laws i a n m.value))
  all_constants laws (num z) = refl
  all_constants laws (get x is s) = refl
  all_constants laws (add a b) = refl
  all_constants laws (sub a b) = refl
  all_constants laws (mul a b) = refl

  all_distinct : LawsHold ob e → (c : Condition) → name_kept ob e c ≡ true
  unfolding name_kept
  all_distinct laws (Distinct x y) = and_from (kept ob e (form.names_differ x y)) (kept ob e (form.names_differ y x)) (listed laws (form.names_differ x y)) (listed laws (form.names_differ y x))
  all_distinct laws _ = refl

pub condition_laws_hold : ConditionLawsHold
condition_laws_hold ob e p c is allowed = conditions_hold ob e p c is allowed

pub condition_laws_pass : ConditionLawsPass
condition_laws_pass ob e laws = record {
  values = all_pass (λ (m : ValueMark). value_kept ob e m.value) e.values (λ m. all_values ob e laws m.value);
  reads = all_pass (λ (m : ValueMark). read_kept ob e m.value) e.values (λ m. all_reads ob e laws m.value);
  tests = tests_row ob e ∙ all_pass (λ (m : TestMark). test_stays ob e m.test m.store) e.tests (λ m. all_tests ob e laws m.test m.store);
  runs = all_pass (λ (m : StoreMark). run_kept ob e m.store) e.stores (λ m. all_runs ob e laws m.store);
  constants = all_pass (λ (m : ValueMark). constant_kept ob e m.value) e.values (λ m. all_constants ob e laws m.value);
  names = all_pass (name_kept ob e) ob.conditions (λ c. all_distinct ob e laws c);
}
