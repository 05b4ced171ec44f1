-- What the laws of the side conditions, 11 to 21, ask of the terms that have marks: the clauses that speak of a term, each with a literal
-- that is true in the escape or that speaks of a term without a mark. A clause counts only where its condition is listed.
use Rattle.std.specs.Prelude.{ℕ, Bool, true, not, ◌==◌, ◌&&◌, ◌||◌}
use Rattle.std.specs.List.{list_all}
use Rattle.toy_imp.specs.declared.condition.Condition.{Condition}
use Rattle.toy_imp.specs.declared.condition.Condition.TheVariants.{Ignores, Distinct}
use Rattle.rule_terms.specs.Term.{StoreTerm, put, run, ValueTerm, get, ev, ValueTerms, no_terms, term}
use Rattle.rule_terms.specs.declared.obligation.Obligation.{Obligation}
use Rattle.law_clauses.specs.Shapes.{place}
use Rattle.law_clauses.specs.ClauseForms.{Clause, is_allowed, keeps_value, keeps_variable, keeps_test, keeps_test_back, value_ignores, test_ignores, test_ignores_back, run_ignores, run_leaves, runs_commute, at_least_one, constant_value, names_differ}
use Rattle.escape_marks.specs.declared.escape.ValueMark.{ValueMark}
use Rattle.escape_marks.specs.declared.escape.TestMark.{TestMark}
use Rattle.escape_marks.specs.declared.escape.Escape.{Escape}
use Rattle.escape_laws.specs.MarkedLaws.{keeps}

module _ (ob : Obligation) (e : Escape) where
  -- a clause is kept, or its condition is not listed
  abbrev pub kept : Clause → Bool
  kept c = not (is_allowed ob c) || keeps ob.params e c

  -- .. at the name of each condition of `ignores`
  abbrev pub kept_at : (ℕ → Clause) → Condition → Bool
  kept_at clause (Ignores k x) = kept (clause x)
  kept_at clause _ = true

  unfoldable pub kept_at_names : (ℕ → Clause) → Bool
  kept_at_names clause = list_all (kept_at clause) ob.conditions

  -- 11 behind a run, 14 behind a write: the value of an expression is that before it
  abbrev pub value_stays : ℕ → StoreTerm → Bool
  value_stays i (run k s) = kept (keeps_value k s i)
  value_stays i (put s x is v) = kept_at_names (λ n. value_ignores i n s (place x is) v)
  value_stays i _ = true

  -- .. and 19
  unfoldable pub value_kept : ValueTerm → Bool
  value_kept (ev i s) = kept (at_least_one i s) && value_stays i s
  value_kept _ = true

  -- 12, without indices
  unfoldable pub variable_stays : ℕ → StoreTerm → ℕ → ValueTerms → Bool
  variable_stays k s x no_terms = kept (keeps_variable k s x)
  variable_stays k s x (term v vs) = true

  -- .. and 17: a read behind a run is that before it
  unfoldable pub read_kept : ValueTerm → Bool
  read_kept (get x is (run k s)) = variable_stays k s x is && kept_at_names (λ n. run_leaves k n s (place x is))
  read_kept _ = true

  -- 13 behind a run, 15 behind a write: a test holds where it held before
  unfoldable pub test_stays : ℕ → StoreTerm → Bool
  test_stays q (run k s) = kept (keeps_test k s q) && kept (keeps_test_back k s q)
  test_stays q (put s x is v) = kept_at_names (λ n. test_ignores q n s (place x is) v) && kept_at_names (λ n. test_ignores_back q n s (place x is) v)
  test_stays q _ = true

  unfoldable pub test_kept : TestMark → Bool
  test_kept m = test_stays m.test m.store

  -- 16, a run behind a write; 18, a run behind a run
  unfoldable pub run_kept : StoreTerm → Bool
  run_kept (run k (put s x is v)) = kept_at_names (λ n. run_ignores k n s (place x is) v)
  run_kept (run k (run j s)) = kept (runs_commute j k s)
  run_kept _ = true

  -- 20: an expression at one store, and at the store of each mark
  abbrev pub constant_at : ℕ → StoreTerm → ValueTerm → Bool
  constant_at i a (ev j c) = not (i == j) || keeps ob.params e (constant_value i a c)
  constant_at i a _ = true

  unfoldable pub constant_as : ℕ → StoreTerm → ValueMark → Bool
  constant_as i a n = constant_at i a n.value

  unfoldable pub constant_kept : ValueTerm → Bool
  constant_kept (ev i a) = not (is_allowed ob (constant_value i a a)) || list_all (constant_as i a) e.values
  constant_kept _ = true

  -- 21, at a condition: in either order
  unfoldable pub name_kept : Condition → Bool
  name_kept (Distinct x y) = kept (names_differ x y) && kept (names_differ y x)
  name_kept _ = true
