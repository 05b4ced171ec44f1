-- Each form of a clause, with what its letters stand for, is a clause of its law.
use Rattle.std.specs.Prelude.{◌≡◌, ℕ, pos, Bool, true, false, not, ◌==◌, ◌&&◌, ◌||◌, List, [], ◌∷◌, ◌++◌, map, Some, refl}
use Rattle.std.proofs.Common.{sym, ap, ◌∙◌, true≢false}
use Rattle.std.proofs.lemmas.Bool.{and_from, and_parts}
use Rattle.toy_imp.specs.declared.param.Kind.TheVariants as kind
use Rattle.rule_terms.specs.Term.{StoreTerm, run, ValueTerm, no_terms, Place}
use Rattle.rule_terms.specs.Order.{store_same}
use Rattle.rule_terms.specs.declared.obligation.Atom.TheVariants.{SameName, SameStore, SameValue, Ends}
use Rattle.rule_terms.specs.declared.obligation.Obligation.{Obligation}
use Rattle.term_meaning.specs.Indices.{count}
use Rattle.term_meaning.specs.Writes.{base_of}
use Rattle.law_clauses.specs.Signed.{Signed, plus, minus}
use Rattle.law_clauses.specs.Shapes.{put_at, get_at, is_run}
use Rattle.law_clauses.specs.Listed.{lists_keeps, lists_ignores, lists_commutes, lists_positive, lists_constant, lists_distinct}
use Rattle.law_clauses.specs.WriteLaws.{conclusion, negated_conditions, unequal, read_back, law_1, law_2, index_pair, law_3, law_4, places_written, read_unlike, written_alike, law_5, law_6, law_7, law_8, law_9, law_10}
use Rattle.law_clauses.specs.ConditionLaws.{law_11, law_12, law_13, law_14, law_15, law_16, law_17, law_18, law_19, law_20, law_21}
use Rattle.law_clauses.specs.NumberLaws.{law_22, law_23, law_24}
use Rattle.law_clauses.specs.Laws.{is_clause}
use Rattle.law_clauses.specs.ClauseForms as form
use Rattle.law_clauses.specs.ClauseForms.{Clause, law_of, literals, is_allowed, FormsAreClauses}
use Rattle.law_clauses.proofs.Same.{or_false}
use Rattle.law_clauses.proofs.Itself.{number_itself, integer_itself, store_itself, value_itself, place_itself, all_itself, run_itself, num_itself, get_itself, ev_itself, add_itself, mul_itself}

-- a conclusion behind negated conditions
conclusion_behind : (xs : List Signed) (c : Signed) → conclusion (xs ++ c ∷ []) ≡ Some c
conclusion_behind [] c = refl
conclusion_behind (x ∷ []) c = refl
conclusion_behind (x ∷ y ∷ ys) c = conclusion_behind (y ∷ ys) c

conditions_before : (xs : List Signed) (c : Signed) → negated_conditions (xs ++ c ∷ []) ≡ xs
conditions_before [] c = refl
conditions_before (x ∷ []) c = refl
conditions_before (x ∷ y ∷ ys) c = ap (λ zs. x ∷ zs) (conditions_before (y ∷ ys) c)

-- a disjunct that holds
or_first : (a b : Bool) → a ≡ true → (a || b) ≡ true
or_first true b e = refl
or_first false b e = absurd (true≢false (sym e))

or_second : (a b : Bool) → b ≡ true → (a || b) ≡ true
or_second true b e = refl
or_second false b e = e

-- ---- 1 to 10
module _ (s : StoreTerm) (p : Place) (v : ValueTerm) (q : Place) where
  holds_1 : (count q.indices == count p.indices) ≡ true → law_1 (literals (form.read_back s p v q)) ≡ true
  unfolding law_1 read_back
  holds_1 e =
      let front = minus (Ends (put_at s p v)) ∷ minus (SameName q.name p.name) ∷ unequal q.indices p.indices in
      let last = plus (SameValue (get_at q (put_at s p v)) v) in
      (λ j. read_back (conclusion_behind front last j) (conditions_before front last j))
      ∙ and_from _ _ e (and_from _ _ (value_itself v) (all_itself front))

  holds_2 : law_2 (literals (form.past_name s p v q)) ≡ true
  unfolding law_2
  holds_2 = and_from _ _ (number_itself q.name) (and_from _ _ (number_itself p.name) (get_itself q.name q.indices s))

  holds_3 : (a b : ValueTerm) → (count q.indices == count p.indices && index_pair a b q.indices p.indices) ≡ true → law_3 (literals (form.past_index s p v q a b)) ≡ true
  unfolding law_3
  holds_3 a b e = let h = and_parts (count q.indices == count p.indices) _ e in and_from _ _ h.0 (and_from _ _ h.1 (get_itself q.name q.indices s))

  holds_4 : not (count q.indices == count p.indices) ≡ true → law_4 (literals (form.past_count s p v q)) ≡ true
  unfolding law_4
  holds_4 e = and_from _ _ e (get_itself q.name q.indices s)

holds_5 : (a c : StoreTerm) → law_5 (literals (form.written_alike a c)) ≡ true
unfolding law_5 written_alike
holds_5 a c =
    let front = minus (SameStore (base_of a) (base_of c)) ∷ map (read_unlike a c) (places_written a c) in
    let last = plus (SameStore a c) in
    (λ j. written_alike (conclusion_behind front last j) (conditions_before front last j)) ∙ all_itself front

holds_6_left : law_6 (literals form.left_ends) ≡ true
unfolding law_6
holds_6_left = refl

holds_6_right : law_6 (literals form.right_ends) ≡ true
unfolding law_6
holds_6_right = refl

holds_7 : (s : StoreTerm) (p : Place) (v : ValueTerm) → law_7 (literals (form.write_ends s p v)) ≡ true
unfolding law_7
holds_7 s p v = store_itself s

holds_8 : (s : StoreTerm) (p : Place) (v : ValueTerm) → law_8 (literals (form.written_ends s p v)) ≡ true
unfolding law_8
holds_8 s p v = store_itself s

holds_9 : (k : ℕ) (s : StoreTerm) → law_9 (literals (form.run_starts k s)) ≡ true
unfolding law_9
holds_9 k s = store_itself s

holds_10 : (a c : StoreTerm) → law_10 (literals (form.neither_ends a c)) ≡ true
unfolding law_10
holds_10 a c = and_from _ _ (store_itself a) (store_itself c)

-- ---- 11 to 21
module _ (ob : Obligation) where
  holds_11 : (k : ℕ) (s : StoreTerm) (e : ℕ) → lists_keeps ob kind.Expr k e ≡ true → law_11 ob (literals (form.keeps_value k s e)) ≡ true
  unfolding law_11
  holds_11 k s e h = and_from _ _ h (and_from _ _ (run_itself k s) (ev_itself e s))

  holds_12 : (k : ℕ) (s : StoreTerm) (x : ℕ) → lists_keeps ob kind.Name k x ≡ true → law_12 ob (literals (form.keeps_variable k s x)) ≡ true
  unfolding law_12
  holds_12 k s x h = and_from _ _ h (and_from _ _ (run_itself k s) (get_itself x no_terms s))

  holds_13 : (k : ℕ) (s : StoreTerm) (q : ℕ) → lists_keeps ob kind.Test k q ≡ true → law_13 ob (literals (form.keeps_test k s q)) ≡ true
  unfolding law_13
  holds_13 k s q h = and_from _ _ h (and_from _ _ (number_itself q) (or_first _ _ (and_from _ _ (store_itself s) (run_itself k s))))

  holds_13_back : (k : ℕ) (s : StoreTerm) (q : ℕ) → lists_keeps ob kind.Test k q ≡ true → law_13 ob (literals (form.keeps_test_back k s q)) ≡ true
  unfolding law_13
  holds_13_back k s q h = and_from _ _ h (and_from _ _ (number_itself q) (or_second (store_same (run k s) s && is_run s k s) _ (and_from _ _ (run_itself k s) (store_itself s))))

  module _ (k x : ℕ) (s : StoreTerm) (p : Place) (v : ValueTerm) where
    holds_14 : lists_ignores ob kind.Expr k x ≡ true → law_14 ob (literals (form.value_ignores k x s p v)) ≡ true
    unfolding law_14
    holds_14 h = and_from _ _ h (and_from _ _ (number_itself p.name) (ev_itself k s))

    holds_15 : lists_ignores ob kind.Test k x ≡ true → law_15 ob (literals (form.test_ignores k x s p v)) ≡ true
    unfolding law_15
    holds_15 h = and_from _ _ h (and_from _ _ (number_itself k) (or_first _ _ (and_from _ _ (number_itself p.name) (store_itself s))))

    holds_15_back : lists_ignores ob kind.Test k x ≡ true → law_15 ob (literals (form.test_ignores_back k x s p v)) ≡ true
    unfolding law_15
    holds_15_back h = and_from _ _ h (and_from _ _ (number_itself k) (or_second _ _ (and_from _ _ (number_itself p.name) (store_itself s))))

    holds_16 : lists_ignores ob kind.Stmt k x ≡ true → law_16 ob (literals (form.run_ignores k x s p v)) ≡ true
    unfolding law_16
    holds_16 h = and_from _ _ h (and_from _ _ (number_itself p.name) (and_from _ _ (run_itself k s) (and_from _ _ (place_itself p) (value_itself v))))

  holds_17 : (k x : ℕ) (s : StoreTerm) (q : Place) → lists_ignores ob kind.Stmt k x ≡ true → law_17 ob (literals (form.run_leaves k x s q)) ≡ true
  unfolding law_17
  holds_17 k x s q h = and_from _ _ h (and_from _ _ (number_itself q.name) (and_from _ _ (run_itself k s) (get_itself q.name q.indices s)))

  holds_18 : (j k : ℕ) (s : StoreTerm) → lists_commutes ob j k ≡ true → law_18 ob (literals (form.runs_commute j k s)) ≡ true
  unfolding law_18
  holds_18 j k s h = and_from _ _ h (and_from _ _ (number_itself j) (run_itself k s))

  holds_19 : (e : ℕ) (s : StoreTerm) → lists_positive ob e ≡ true → law_19 ob (literals (form.at_least_one e s)) ≡ true
  unfolding law_19
  holds_19 e s h = and_from _ _ h (and_from _ _ (num_itself (pos 1)) (and_from _ _ (store_itself s) (integer_itself (pos 0))))

  holds_20 : (e : ℕ) (a c : StoreTerm) → lists_constant ob e ≡ true → law_20 ob (literals (form.constant_value e a c)) ≡ true
  unfolding law_20
  holds_20 e a c h = and_from _ _ h (and_from _ _ (store_itself a) (ev_itself e c))

  holds_21 : (x y : ℕ) → lists_distinct ob x y ≡ true → law_21 ob (literals (form.names_differ x y)) ≡ true
  unfolding law_21
  holds_21 x y h = h

-- ---- 22 to 24
module _ (a b : ValueTerm) where
  holds_22 : (c d : ValueTerm) → law_22 (literals (form.sum_exchanged a b c d)) ≡ true
  unfolding law_22
  holds_22 c d = and_from _ _ (value_itself a) (and_from _ _ (value_itself b) (add_itself c d))

  holds_22_of_products : (c d : ValueTerm) → law_22 (literals (form.product_exchanged a b c d)) ≡ true
  unfolding law_22
  holds_22_of_products c d = and_from _ _ (value_itself a) (and_from _ _ (value_itself b) (mul_itself c d))

  holds_plus_zero : law_23 (literals (form.plus_zero a b)) ≡ true
  unfolding law_23
  holds_plus_zero = and_from _ _ (num_itself (pos 0)) (or_first _ _ (and_from _ _ (value_itself b) (value_itself a)))

  holds_zero_plus : law_23 (literals (form.zero_plus a b)) ≡ true
  unfolding law_23
  holds_zero_plus = and_from _ _ (num_itself (pos 0)) (or_second _ _ (and_from _ _ (value_itself a) (value_itself b)))

  holds_zero_times : law_23 (literals (form.zero_times a b)) ≡ true
  unfolding law_23
  holds_zero_times = or_first _ _ (and_from _ _ (num_itself (pos 0)) (and_from _ _ (or_first _ _ (value_itself a)) (num_itself (pos 0))))

  holds_times_zero : law_23 (literals (form.times_zero a b)) ≡ true
  unfolding law_23
  holds_times_zero = or_first _ _ (and_from _ _ (num_itself (pos 0)) (and_from _ _ (or_second _ _ (value_itself b)) (num_itself (pos 0))))

  holds_one_times : law_23 (literals (form.one_times a b)) ≡ true
  unfolding law_23
  holds_one_times = or_second _ _ (and_from _ _ (num_itself (pos 1)) (or_first _ _ (and_from _ _ (value_itself a) (value_itself b))))

  holds_times_one : law_23 (literals (form.times_one a b)) ≡ true
  unfolding law_23
  holds_times_one = or_second _ _ (and_from _ _ (num_itself (pos 1)) (or_second _ _ (and_from _ _ (value_itself b) (value_itself a))))

  holds_24 : law_24 (literals (form.less_itself a b)) ≡ true
  unfolding law_24
  holds_24 = and_from _ _ (value_itself a) (and_from _ _ (value_itself b) (num_itself (pos 0)))

-- ---- by the laws' numbers
pub forms_are_clauses : FormsAreClauses
unfolding is_clause
forms_are_clauses ob (form.read_back s p v q) e = or_false _ ∙ holds_1 s p v q e
forms_are_clauses ob (form.past_name s p v q) e = or_false _ ∙ holds_2 s p v q
forms_are_clauses ob (form.past_index s p v q a b) e = or_false _ ∙ holds_3 s p v q a b e
forms_are_clauses ob (form.past_count s p v q) e = or_false _ ∙ holds_4 s p v q e
forms_are_clauses ob (form.written_alike a c) e = or_false _ ∙ holds_5 a c
forms_are_clauses ob form.left_ends e = or_false _ ∙ holds_6_left
forms_are_clauses ob form.right_ends e = or_false _ ∙ holds_6_right
forms_are_clauses ob (form.write_ends s p v) e = or_false _ ∙ holds_7 s p v
forms_are_clauses ob (form.written_ends s p v) e = or_false _ ∙ holds_8 s p v
forms_are_clauses ob (form.run_starts k s) e = or_false _ ∙ holds_9 k s
forms_are_clauses ob (form.neither_ends a c) e = or_false _ ∙ holds_10 a c
forms_are_clauses ob (form.keeps_value k s w) e = or_false _ ∙ holds_11 ob k s w e
forms_are_clauses ob (form.keeps_variable k s x) e = or_false _ ∙ holds_12 ob k s x e
forms_are_clauses ob (form.keeps_test k s q) e = or_false _ ∙ holds_13 ob k s q e
forms_are_clauses ob (form.keeps_test_back k s q) e = or_false _ ∙ holds_13_back ob k s q e
forms_are_clauses ob (form.value_ignores k x s p v) e = or_false _ ∙ holds_14 ob k x s p v e
forms_are_clauses ob (form.test_ignores k x s p v) e = or_false _ ∙ holds_15 ob k x s p v e
forms_are_clauses ob (form.test_ignores_back k x s p v) e = or_false _ ∙ holds_15_back ob k x s p v e
forms_are_clauses ob (form.run_ignores k x s p v) e = or_false _ ∙ holds_16 ob k x s p v e
forms_are_clauses ob (form.run_leaves k x s q) e = or_false _ ∙ holds_17 ob k x s q e
forms_are_clauses ob (form.runs_commute j k s) e = or_false _ ∙ holds_18 ob j k s e
forms_are_clauses ob (form.at_least_one w s) e = or_false _ ∙ holds_19 ob w s e
forms_are_clauses ob (form.constant_value w a c) e = or_false _ ∙ holds_20 ob w a c e
forms_are_clauses ob (form.names_differ x y) e = or_false _ ∙ holds_21 ob x y e
forms_are_clauses ob (form.sum_exchanged a b c d) e = or_false _ ∙ holds_22 a b c d
forms_are_clauses ob (form.product_exchanged a b c d) e = or_false _ ∙ holds_22_of_products a b c d
forms_are_clauses ob (form.plus_zero a b) e = or_false _ ∙ holds_plus_zero a b
forms_are_clauses ob (form.zero_plus a b) e = or_false _ ∙ holds_zero_plus a b
forms_are_clauses ob (form.zero_times a b) e = or_false _ ∙ holds_zero_times a b
forms_are_clauses ob (form.times_zero a b) e = or_false _ ∙ holds_times_zero a b
forms_are_clauses ob (form.one_times a b) e = or_false _ ∙ holds_one_times a b
forms_are_clauses ob (form.times_one a b) e = or_false _ ∙ holds_times_one a b
forms_are_clauses ob (form.less_itself a b) e = or_false _ ∙ holds_24 a b
