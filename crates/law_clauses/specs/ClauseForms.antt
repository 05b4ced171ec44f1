-- The clauses of the laws by what their letters stand for: each law as one would write it down. Here t is s with v written at p.
-- That these are the clauses of `Laws`, and all of them, are the laws `FormsAreClauses` and `ClausesHaveForms` at the end.
use Rattle.std.specs.Prelude.{◌≡◌, ℕ, pos, Bool, true, not, ◌==◌, ◌&&◌, List, [], ◌∷◌, ◌++◌, map}
use Rattle.toy_imp.specs.declared.param.Kind.TheVariants as kind
use Rattle.rule_terms.specs.Term.{StoreTerm, left_store, right_store, run, ValueTerm, num, get, ev, add, sub, mul, no_terms, Place}
use Rattle.rule_terms.specs.declared.obligation.Atom.TheVariants.{SameName, SameStore, SameValue, AtMost, Ends, Holds}
use Rattle.rule_terms.specs.declared.obligation.Obligation.{Obligation}
use Rattle.term_meaning.specs.Indices.{count}
use Rattle.term_meaning.specs.Writes.{base_of}
use Rattle.law_clauses.specs.Signed.{Signed, plus, minus}
use Rattle.law_clauses.specs.Shapes.{put_at, get_at}
use Rattle.law_clauses.specs.Listed.{lists_keeps, lists_ignores, lists_commutes, lists_positive, lists_constant, lists_distinct}
use Rattle.law_clauses.specs.WriteLaws.{unequal, index_pair, places_written, read_unlike}
use Rattle.law_clauses.specs.Laws.{is_clause}

pub data Clause : Type 0 where
  -- 1 to 5: s, p, v, and the place q that is read; a and b are an index of q and that of p
  read_back : StoreTerm → Place → ValueTerm → Place → Clause
  past_name : StoreTerm → Place → ValueTerm → Place → Clause
  past_index : StoreTerm → Place → ValueTerm → Place → ValueTerm → ValueTerm → Clause
  past_count : StoreTerm → Place → ValueTerm → Place → Clause
  written_alike : StoreTerm → StoreTerm → Clause
  -- 6 to 10
  left_ends : Clause
  right_ends : Clause
  write_ends : StoreTerm → Place → ValueTerm → Clause
  written_ends : StoreTerm → Place → ValueTerm → Clause
  run_starts : ℕ → StoreTerm → Clause
  neither_ends : StoreTerm → StoreTerm → Clause
  -- 11 to 13: the statement k, s, and what k keeps
  keeps_value : ℕ → StoreTerm → ℕ → Clause
  keeps_variable : ℕ → StoreTerm → ℕ → Clause
  keeps_test : ℕ → StoreTerm → ℕ → Clause
  keeps_test_back : ℕ → StoreTerm → ℕ → Clause
  -- 14 to 17: what ignores the name x, and x
  value_ignores : ℕ → ℕ → StoreTerm → Place → ValueTerm → Clause
  test_ignores : ℕ → ℕ → StoreTerm → Place → ValueTerm → Clause
  test_ignores_back : ℕ → ℕ → StoreTerm → Place → ValueTerm → Clause
  run_ignores : ℕ → ℕ → StoreTerm → Place → ValueTerm → Clause
  run_leaves : ℕ → ℕ → StoreTerm → Place → Clause
  -- 18 to 21
  runs_commute : ℕ → ℕ → StoreTerm → Clause
  at_least_one : ℕ → StoreTerm → Clause
  constant_value : ℕ → StoreTerm → StoreTerm → Clause
  names_differ : ℕ → ℕ → Clause
  -- 22 to 24: a and b, and what they are equal to
  sum_exchanged : ValueTerm → ValueTerm → ValueTerm → ValueTerm → Clause
  product_exchanged : ValueTerm → ValueTerm → ValueTerm → ValueTerm → Clause
  plus_zero : ValueTerm → ValueTerm → Clause
  zero_plus : ValueTerm → ValueTerm → Clause
  zero_times : ValueTerm → ValueTerm → Clause
  times_zero : ValueTerm → ValueTerm → Clause
  one_times : ValueTerm → ValueTerm → Clause
  times_one : ValueTerm → ValueTerm → Clause
  less_itself : ValueTerm → ValueTerm → Clause

abbrev pub law_of : Clause → ℕ
law_of (read_back s p v q) = 1
law_of (past_name s p v q) = 2
law_of (past_index s p v q a b) = 3
law_of (past_count s p v q) = 4
law_of (written_alike a c) = 5
law_of left_ends = 6
law_of right_ends = 6
law_of (write_ends s p v) = 7
law_of (written_ends s p v) = 8
law_of (run_starts k s) = 9
law_of (neither_ends a c) = 10
law_of (keeps_value k s e) = 11
law_of (keeps_variable k s x) = 12
law_of (keeps_test k s q) = 13
law_of (keeps_test_back k s q) = 13
law_of (value_ignores e x s p v) = 14
law_of (test_ignores q x s p v) = 15
law_of (test_ignores_back q x s p v) = 15
law_of (run_ignores k x s p v) = 16
law_of (run_leaves k x s q) = 17
law_of (runs_commute j k s) = 18
law_of (at_least_one e s) = 19
law_of (constant_value e a c) = 20
law_of (names_differ x y) = 21
law_of (sum_exchanged a b c d) = 22
law_of (product_exchanged a b c d) = 22
law_of (plus_zero a b) = 23
law_of (zero_plus a b) = 23
law_of (zero_times a b) = 23
law_of (times_zero a b) = 23
law_of (one_times a b) = 23
law_of (times_one a b) = 23
law_of (less_itself a b) = 24

-- ---- the literals of a clause: the conditions negated, and the conclusion
abbrev pub equal_values : ValueTerm → ValueTerm → Signed
equal_values a b = plus (SameValue a b)

-- if a = b: the conclusion
abbrev pub if_equal : ValueTerm → ValueTerm → Signed → List Signed
if_equal a b x = minus (SameValue a b) ∷ x ∷ []

abbrev pub literals : Clause → List Signed
literals (read_back s p v q) = minus (Ends (put_at s p v)) ∷ minus (SameName q.name p.name) ∷ (unequal q.indices p.indices ++ equal_values (get_at q (put_at s p v)) v ∷ [])
literals (past_name s p v q) = plus (SameName q.name p.name) ∷ equal_values (get_at q (put_at s p v)) (get_at q s) ∷ []
literals (past_index s p v q a b) = plus (SameValue a b) ∷ equal_values (get_at q (put_at s p v)) (get_at q s) ∷ []
literals (past_count s p v q) = equal_values (get_at q (put_at s p v)) (get_at q s) ∷ []
literals (written_alike a c) = minus (SameStore (base_of a) (base_of c)) ∷ (map (read_unlike a c) (places_written a c) ++ plus (SameStore a c) ∷ [])
literals left_ends = plus (Ends left_store) ∷ []
literals right_ends = plus (Ends right_store) ∷ []
literals (write_ends s p v) = minus (Ends s) ∷ plus (Ends (put_at s p v)) ∷ []
literals (written_ends s p v) = minus (Ends (put_at s p v)) ∷ plus (Ends s) ∷ []
literals (run_starts k s) = minus (Ends (run k s)) ∷ plus (Ends s) ∷ []
literals (neither_ends a c) = plus (Ends a) ∷ plus (Ends c) ∷ plus (SameStore a c) ∷ []
literals (keeps_value k s e) = minus (Ends (run k s)) ∷ equal_values (ev e (run k s)) (ev e s) ∷ []
literals (keeps_variable k s x) = minus (Ends (run k s)) ∷ equal_values (get x no_terms (run k s)) (get x no_terms s) ∷ []
literals (keeps_test k s q) = minus (Ends (run k s)) ∷ minus (Holds q s) ∷ plus (Holds q (run k s)) ∷ []
literals (keeps_test_back k s q) = minus (Ends (run k s)) ∷ minus (Holds q (run k s)) ∷ plus (Holds q s) ∷ []
literals (value_ignores e x s p v) = minus (SameName p.name x) ∷ equal_values (ev e (put_at s p v)) (ev e s) ∷ []
literals (test_ignores q x s p v) = minus (SameName p.name x) ∷ minus (Holds q s) ∷ plus (Holds q (put_at s p v)) ∷ []
literals (test_ignores_back q x s p v) = minus (SameName p.name x) ∷ minus (Holds q (put_at s p v)) ∷ plus (Holds q s) ∷ []
literals (run_ignores k x s p v) = minus (SameName p.name x) ∷ plus (SameStore (run k (put_at s p v)) (put_at (run k s) p v)) ∷ []
literals (run_leaves k x s q) = minus (Ends (run k s)) ∷ minus (SameName q.name x) ∷ equal_values (get_at q (run k s)) (get_at q s) ∷ []
literals (runs_commute j k s) = plus (SameStore (run k (run j s)) (run j (run k s))) ∷ []
literals (at_least_one e s) = minus (Ends s) ∷ plus (AtMost (num (pos 1)) (ev e s) (pos 0)) ∷ []
literals (constant_value e a c) = minus (Ends a) ∷ minus (Ends c) ∷ equal_values (ev e a) (ev e c) ∷ []
literals (names_differ x y) = minus (SameName x y) ∷ []
literals (sum_exchanged a b c d) = minus (SameValue a d) ∷ if_equal b c (equal_values (add a b) (add c d))
literals (product_exchanged a b c d) = minus (SameValue a d) ∷ if_equal b c (equal_values (mul a b) (mul c d))
literals (plus_zero a b) = if_equal b (num (pos 0)) (equal_values (add a b) a)
literals (zero_plus a b) = if_equal a (num (pos 0)) (equal_values (add a b) b)
literals (zero_times a b) = if_equal a (num (pos 0)) (equal_values (mul a b) (num (pos 0)))
literals (times_zero a b) = if_equal b (num (pos 0)) (equal_values (mul a b) (num (pos 0)))
literals (one_times a b) = if_equal a (num (pos 1)) (equal_values (mul a b) b)
literals (times_one a b) = if_equal b (num (pos 1)) (equal_values (mul a b) a)
literals (less_itself a b) = if_equal a b (equal_values (sub a b) (num (pos 0)))

-- ---- what is asked besides: numbers of indices, an index beside another one, a condition of parameters of these kinds
abbrev pub is_allowed : Obligation → Clause → Bool
is_allowed ob (read_back s p v q) = count q.indices == count p.indices
is_allowed ob (past_index s p v q a b) = count q.indices == count p.indices && index_pair a b q.indices p.indices
is_allowed ob (past_count s p v q) = not (count q.indices == count p.indices)
is_allowed ob (keeps_value k s e) = lists_keeps ob kind.Expr k e
is_allowed ob (keeps_variable k s x) = lists_keeps ob kind.Name k x
is_allowed ob (keeps_test k s q) = lists_keeps ob kind.Test k q
is_allowed ob (keeps_test_back k s q) = lists_keeps ob kind.Test k q
is_allowed ob (value_ignores e x s p v) = lists_ignores ob kind.Expr e x
is_allowed ob (test_ignores q x s p v) = lists_ignores ob kind.Test q x
is_allowed ob (test_ignores_back q x s p v) = lists_ignores ob kind.Test q x
is_allowed ob (run_ignores k x s p v) = lists_ignores ob kind.Stmt k x
is_allowed ob (run_leaves k x s q) = lists_ignores ob kind.Stmt k x
is_allowed ob (runs_commute j k s) = lists_commutes ob j k
is_allowed ob (at_least_one e s) = lists_positive ob e
is_allowed ob (constant_value e a c) = lists_constant ob e
is_allowed ob (names_differ x y) = lists_distinct ob x y
is_allowed ob _ = true

-- ---- these and no others
-- each is a clause of its law
abbrev pub FormsAreClauses : Type 0
FormsAreClauses = (ob : Obligation) (c : Clause) → is_allowed ob c ≡ true → is_clause ob (law_of c) (literals c) ≡ true

-- the literals are those of a clause that is allowed
pub record HasForm (ob : Obligation) (k : ℕ) (xs : List Signed) : Type 0 where
  pub clause : Clause
  pub law : k ≡ law_of clause
  pub same : xs ≡ literals clause
  pub allowed : is_allowed ob clause ≡ true

-- each clause of a law is one of them
abbrev pub ClausesHaveForms : Type 0
ClausesHaveForms = (ob : Obligation) (k : ℕ) (xs : List Signed) → is_clause ob k xs ≡ true → HasForm ob k xs
