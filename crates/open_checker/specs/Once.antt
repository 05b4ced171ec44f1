-- Marks that are listed once: no mark has a later one of its term, and there are as many classes as name parameters.
use Rattle.std.specs.Prelude.{◌≡◌, Bool, true, not, ◌&&◌, List, [], ◌∷◌, is_some, length}
use Rattle.rule_terms.specs.declared.obligation.Obligation.{Obligation}
use Rattle.escape_marks.specs.declared.escape.StoreMark.{StoreMark}
use Rattle.escape_marks.specs.declared.escape.ValueMark.{ValueMark}
use Rattle.escape_marks.specs.declared.escape.TestMark.{TestMark}
use Rattle.escape_marks.specs.declared.escape.Escape.{Escape}
use Rattle.escape_marks.specs.Marks.{count_names, store_mark, value_mark, test_mark}

unfoldable pub stores_once : List StoreMark → Bool
stores_once [] = true
stores_once (m ∷ more) = not (is_some (store_mark more m.store)) && stores_once more

unfoldable pub values_once : List ValueMark → Bool
values_once [] = true
values_once (m ∷ more) = not (is_some (value_mark more m.value)) && values_once more

unfoldable pub tests_once : List TestMark → Bool
tests_once [] = true
tests_once (m ∷ more) = not (is_some (test_mark more m.test m.store)) && tests_once more

pub record IsListedOnce (ob : Obligation) (e : Escape) : Type 0 where
  pub names : length e.names ≡ count_names ob.params
  pub stores : stores_once e.stores ≡ true
  pub values : values_once e.values ≡ true
  pub tests : tests_once e.tests ≡ true
