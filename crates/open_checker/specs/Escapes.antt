-- When marks are an escape of an obligation: a finite model of the laws in which its known conjuncts and its path are true and its goal
-- is false. The marks are of the terms of its universe, each once, and each of its names has a class.
use Rattle.std.specs.Prelude.{◌≡◌, ℕ, Bool, true, map, length, is_some}
use Rattle.std.specs.List.{list_all}
use Rattle.rule_terms.specs.Term.{StoreTerm}
use Rattle.rule_terms.specs.declared.obligation.Obligation.{Obligation}
use Rattle.term_universe.specs.Names.{obligation_names}
use Rattle.term_universe.specs.Universe.{ListsOnce, universe_stores, universe_values, universe_tests}
use Rattle.escape_marks.specs.declared.escape.StoreMark.{StoreMark}
use Rattle.escape_marks.specs.declared.escape.ValueMark.{ValueMark}
use Rattle.escape_marks.specs.declared.escape.TestMark.{TestMark}
use Rattle.escape_marks.specs.declared.escape.Escape.{Escape}
use Rattle.escape_marks.specs.LawsHold.{LawsHold}
use Rattle.escape_marks.specs.Marks.{count_names, name_class, literal_true, conjunct_true}
use Rattle.open_checker.specs.Likeness.{store_agrees, value_agrees}
use Rattle.open_checker.specs.Points.{ends_as_its_class, holds_as_its_class, number_fits, is_small, GoalFails}

-- ---- each store, value and test of the universe is marked once, and nothing else is; the names have classes
abbrev pub store_of : StoreMark → StoreTerm
store_of m = m.store

abbrev pub marked_test : TestMark → ℕ × StoreTerm
marked_test m = (m.test, m.store)

pub record MarksUniverse (ob : Obligation) (e : Escape) : Type 0 where
  pub names : length e.names ≡ count_names ob.params
  pub stores : ListsOnce (map store_of e.stores) (universe_stores ob)
  pub values : ListsOnce (map (λ (m : ValueMark). m.value) e.values) (universe_values ob)
  pub tests : ListsOnce (map marked_test e.tests) (universe_tests ob)

abbrev pub names_have_classes : Obligation → Escape → Bool
names_have_classes ob e = list_all (λ x. is_some (name_class ob.params e.names x)) (obligation_names ob)

-- ---- the six points, behind the marks: like terms agree, flags are of classes, offsets hold, the laws hold, known conjuncts and
-- path are true, the goal is false
pub record Escapes (ob : Obligation) (e : Escape) : Type 0 where
  pub marks : MarksUniverse ob e
  pub named : names_have_classes ob e ≡ true
  pub small : list_all is_small e.values ≡ true
  pub like_stores : list_all (store_agrees ob.params e) e.stores ≡ true
  pub like_values : list_all (value_agrees ob.params e) e.values ≡ true
  pub ends : list_all (ends_as_its_class e.stores) e.stores ≡ true
  pub holds : list_all (holds_as_its_class e.stores e.tests) e.tests ≡ true
  pub numbers : list_all (number_fits e.values) e.values ≡ true
  pub laws : LawsHold ob e
  pub known : list_all (conjunct_true ob.params e) ob.known ≡ true
  pub path : list_all (literal_true ob.params e) ob.path ≡ true
  pub goal : GoalFails ob e
