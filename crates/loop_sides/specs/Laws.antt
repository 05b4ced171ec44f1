-- What the forms of a rule's expressions are worth in the runs of its instances.
use Rattle.std.specs.Prelude.{◌≡◌, ℕ, ◌≤◌, ℤ, pos, List, length, Option, Some, slice_index_or}
use Rattle.toy_imp.specs.declared.instance.Instance.{Instance}
use Rattle.toy_imp.specs.declared.param.Param.{Param}
use Rattle.toy_imp.specs.Cell.{variable}
use Rattle.toy_imp.specs.Expr.{Expr}
use Rattle.toy_imp.specs.Fill.{name_at, expr_at, fill_expr}
use Rattle.toy_imp.specs.Store.{Store, read}
use Rattle.toy_imp.specs.Value.{value}
use Rattle.affine_forms.specs.declared.form.Form.{Form}
use Rattle.affine_forms.specs.Form.{form_value}
use Rattle.loop_sides.specs.Summed.{counter_place, symbol_place, summed}

-- in a store the variables of the counters hold these numbers, and the symbols have these values
pub record HoldsCounters (params : List Param) (names : List ℕ) (renamed : Option ℕ) (i : Instance) (s : Store) (xs vs : List ℤ) : Type 0 where
  pub counters : (k j : ℕ) → counter_place names renamed k ≡ Some j → read s (variable (name_at i k)) ≡ slice_index_or xs j (pos 0)
  pub symbols : (k j : ℕ) → symbol_place params k ≡ Some j → value (expr_at i k) s ≡ slice_index_or vs j (pos 0)

-- there an expression of the rule has the value of its summed form
abbrev pub SummedIsValue : Type 0
SummedIsValue = (params : List Param) (names : List ℕ) (renamed : Option ℕ) (i : Instance) (s : Store) (xs vs : List ℤ) (e : Expr) (f : Form) →
    length names ≤ 4 → HoldsCounters params names renamed i s xs vs →
    summed params names renamed e ≡ Some f → value (fill_expr i e) s ≡ form_value f xs vs
