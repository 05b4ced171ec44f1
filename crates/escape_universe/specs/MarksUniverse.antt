-- The terms that have marks and those of the universe are the same. And each name of an obligation has a class.
use Rattle.std.specs.Prelude.{ℕ, Bool, map, is_some}
use Rattle.std.specs.List.{list_all}
use Rattle.rule_terms.specs.Term.{StoreTerm, ValueTerm}
use Rattle.rule_terms.specs.declared.obligation.Obligation.{Obligation}
use Rattle.term_universe.specs.Names.{obligation_names}
use Rattle.term_universe.specs.Universe.{universe_stores, universe_values, universe_tests}
use Rattle.term_universe.specs.UniverseLaws.{SameMembers}
use Rattle.escape_marks.specs.declared.escape.StoreMark.{StoreMark}
use Rattle.escape_marks.specs.declared.escape.ValueMark.{ValueMark}
use Rattle.escape_marks.specs.declared.escape.TestMark.{TestMark}
use Rattle.escape_marks.specs.declared.escape.Escape.{Escape}
use Rattle.escape_marks.specs.Marks.{name_class}

abbrev pub store_of : StoreMark → StoreTerm
store_of m = m.store

abbrev pub value_of : ValueMark → ValueTerm
value_of m = m.value

abbrev pub marked_test : TestMark → ℕ × StoreTerm
marked_test m = (m.test, m.store)

-- the stores, values and tests with marks are those of the universe, as often as they may be listed
pub record MarksItsTerms (ob : Obligation) (e : Escape) : Type 0 where
  pub stores : SameMembers (map store_of e.stores) (universe_stores ob)
  pub values : SameMembers (map value_of e.values) (universe_values ob)
  pub tests : SameMembers (map marked_test e.tests) (universe_tests ob)

-- each name has a class
abbrev pub names_have_classes : Obligation → Escape → Bool
names_have_classes ob e = list_all (λ x. is_some (name_class ob.params e.names x)) (obligation_names ob)
