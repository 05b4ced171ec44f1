-- What laws 6, 10 and 22 ask of the terms that have marks: 10 and 22 speak of two terms, 6 of the stores of both sides.
use Rattle.std.specs.Prelude.{Bool, true, ◌&&◌, List}
use Rattle.std.specs.List.{list_all}
use Rattle.toy_imp.specs.declared.param.Kind.{Kind}
use Rattle.rule_terms.specs.Term.{StoreTerm, ValueTerm, add, mul}
use Rattle.law_clauses.specs.ClauseForms.{left_ends, right_ends, neither_ends, sum_exchanged, product_exchanged}
use Rattle.escape_marks.specs.declared.escape.StoreMark.{StoreMark}
use Rattle.escape_marks.specs.declared.escape.ValueMark.{ValueMark}
use Rattle.escape_marks.specs.declared.escape.Escape.{Escape}
use Rattle.escape_laws.specs.MarkedLaws.{keeps}

module _ (params : List Kind) (e : Escape) where
  -- 6: the stores of both sides end
  abbrev pub sides_kept : Bool
  sides_kept = keeps params e left_ends && keeps params e right_ends

  -- 10: of two stores one ends, or they are equal
  unfoldable pub halts_kept : StoreTerm → StoreMark → Bool
  halts_kept a n = keeps params e (neither_ends a n.store)

  unfoldable pub halts_as_all : StoreMark → Bool
  halts_as_all m = list_all (halts_kept m.store) e.stores

  -- 22: two sums, or two products, of equal operands in the other order
  abbrev pub operands_exchanged : ValueTerm → ValueTerm → Bool
  operands_exchanged (add a b) (add c d) = keeps params e (sum_exchanged a b c d)
  operands_exchanged (mul a b) (mul c d) = keeps params e (product_exchanged a b c d)
  operands_exchanged _ _ = true

  unfoldable pub exchange_kept : ValueTerm → ValueMark → Bool
  exchange_kept v n = operands_exchanged v n.value

  unfoldable pub exchanges_with_all : ValueMark → Bool
  exchanges_with_all m = list_all (exchange_kept m.value) e.values
