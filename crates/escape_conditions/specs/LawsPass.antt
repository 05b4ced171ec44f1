-- The tests of all laws, group by group.
use Rattle.std.specs.Prelude.{Bool, ◌&&◌, List}
use Rattle.std.specs.List.{list_all}
use Rattle.toy_imp.specs.declared.param.Kind.{Kind}
use Rattle.rule_terms.specs.declared.obligation.Obligation.{Obligation}
use Rattle.escape_marks.specs.declared.escape.StoreMark.{StoreMark}
use Rattle.escape_marks.specs.declared.escape.ValueMark.{ValueMark}
use Rattle.escape_marks.specs.declared.escape.Escape.{Escape}
use Rattle.escape_laws.specs.MarkedLaws.{ends_kept, reads_kept, sums_kept}
use Rattle.escape_laws.specs.ReadBack.{back_kept}
use Rattle.escape_laws.specs.IndexLaw.{index_kept}
use Rattle.escape_laws.specs.WrittenLaw.{written_as_all}
use Rattle.escape_laws.specs.PairLaws.{sides_kept, halts_as_all, exchanges_with_all}
use Rattle.escape_conditions.specs.MarkedConditions.{value_kept, read_kept, test_kept, run_kept, constant_kept, name_kept}

module _ (params : List Kind) (e : Escape) where
  -- laws 1 to 4, at value terms
  unfoldable pub reads_pass : Bool
  reads_pass = list_all (λ (m : ValueMark). back_kept params e m.value) e.values && (list_all (λ (m : ValueMark). index_kept params e m.value) e.values && list_all (λ (m : ValueMark). reads_kept params e m.value) e.values)

  -- 5 to 10, at store terms
  unfoldable pub stores_pass : Bool
  stores_pass = sides_kept params e && (list_all (λ (m : StoreMark). ends_kept params e m.store) e.stores && (list_all (halts_as_all params e) e.stores && list_all (written_as_all params e) e.stores))

  -- 22 to 24
  unfoldable pub numbers_pass : Bool
  numbers_pass = list_all (exchanges_with_all params e) e.values && list_all (λ (m : ValueMark). sums_kept params e m.value) e.values

module _ (ob : Obligation) (e : Escape) where
  -- 11 to 21
  unfoldable pub at_marks_pass : Bool
  at_marks_pass = list_all (λ (m : ValueMark). value_kept ob e m.value) e.values && (list_all (λ (m : ValueMark). read_kept ob e m.value) e.values && list_all (test_kept ob e) e.tests)

  unfoldable pub others_pass : Bool
  others_pass = list_all (λ (m : StoreMark). run_kept ob e m.store) e.stores && (list_all (λ (m : ValueMark). constant_kept ob e m.value) e.values && list_all (name_kept ob e) ob.conditions)

  unfoldable pub laws_pass : Bool
  laws_pass = reads_pass ob.params e && (stores_pass ob.params e && (numbers_pass ob.params e && (at_marks_pass && others_pass)))
