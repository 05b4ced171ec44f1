-- What the tests at terms say of the laws of the side conditions: where the marks of an escape pass them, each clause of these laws holds,
-- and the other way round.
use Rattle.std.specs.Prelude.{◌≡◌, Bool, true, false}
use Rattle.std.specs.List.{list_all}
use Rattle.rule_terms.specs.declared.obligation.Obligation.{Obligation}
use Rattle.law_clauses.specs.ClauseForms.{Clause, is_allowed, keeps_value, keeps_variable, keeps_test, keeps_test_back, value_ignores, test_ignores, test_ignores_back, run_ignores, run_leaves, runs_commute, at_least_one, constant_value, names_differ}
use Rattle.escape_marks.specs.declared.escape.StoreMark.{StoreMark}
use Rattle.escape_marks.specs.declared.escape.ValueMark.{ValueMark}
use Rattle.escape_marks.specs.declared.escape.Escape.{Escape}
use Rattle.escape_marks.specs.LawsHold.{LawsHold}
use Rattle.escape_laws.specs.KeptLaws.{HoldsIn}
use Rattle.escape_conditions.specs.MarkedConditions.{value_kept, read_kept, test_kept, run_kept, constant_kept, name_kept}

-- a clause of laws 11 to 21
abbrev pub speaks_of_conditions : Clause → Bool
speaks_of_conditions (keeps_value k s i) = true
speaks_of_conditions (keeps_variable k s x) = true
speaks_of_conditions (keeps_test k s q) = true
speaks_of_conditions (keeps_test_back k s q) = true
speaks_of_conditions (value_ignores i x s p v) = true
speaks_of_conditions (test_ignores q x s p v) = true
speaks_of_conditions (test_ignores_back q x s p v) = true
speaks_of_conditions (run_ignores k x s p v) = true
speaks_of_conditions (run_leaves k x s q) = true
speaks_of_conditions (runs_commute j k s) = true
speaks_of_conditions (at_least_one i s) = true
speaks_of_conditions (constant_value i a c) = true
speaks_of_conditions (names_differ x y) = true
speaks_of_conditions _ = false

pub record ConditionsPass (ob : Obligation) (e : Escape) : Type 0 where
  pub values : list_all (λ (m : ValueMark). value_kept ob e m.value) e.values ≡ true
  pub reads : list_all (λ (m : ValueMark). read_kept ob e m.value) e.values ≡ true
  pub tests : list_all (test_kept ob e) e.tests ≡ true
  pub runs : list_all (λ (m : StoreMark). run_kept ob e m.store) e.stores ≡ true
  pub constants : list_all (λ (m : ValueMark). constant_kept ob e m.value) e.values ≡ true
  pub names : list_all (name_kept ob e) ob.conditions ≡ true

abbrev pub ConditionLawsHold : Type 0
ConditionLawsHold = (ob : Obligation) (e : Escape) → ConditionsPass ob e → (c : Clause) → speaks_of_conditions c ≡ true → is_allowed ob c ≡ true → HoldsIn ob e c

abbrev pub ConditionLawsPass : Type 0
ConditionLawsPass = (ob : Obligation) (e : Escape) → LawsHold ob e → ConditionsPass ob e
