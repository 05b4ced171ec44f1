-- The value of an expression with parameters, under an instance and in a store; and the truth of a test.
-- A parameter has the value of what stands for it, and a cell whose name is a parameter is a cell of what stands for that.
use Rattle.std.specs.Prelude.{ℤ, ◌+ℤ◌, ◌-ℤ◌, ◌*ℤ◌, List, [], ◌∷◌, Bool, not, ◌&&◌, ◌||◌, int_lt, int_le}
use Rattle.std.specs.Ordering.{int_eq}
use Rattle.toy_imp.specs.declared.instance.Instance.{Instance}
use Rattle.toy_imp.specs.Cell.{spelled}
use Rattle.toy_imp.specs.Store.{Store, read}
use Rattle.toy_imp.specs.Value.{value}
use Rattle.toy_imp.specs.Truth.{truth}
use Rattle.toy_imp.specs.Fill.{expr_at, test_at, fill_name}
use Rattle.toy_imp.specs.Expr.{Expr, num, at, add, sub, mul, par_expr, Exprs, no_exprs, expr}
use Rattle.toy_imp.specs.Test.{Test, less, less_eq, equal, not_of, and_of, or_of, par_test}

unfoldable mutual
  pub value_under : Instance → Expr → Store → ℤ
  value_under i (num z) s = z
  value_under i (at x es) s = read s (spelled (fill_name i x), values_under i es s)
  value_under i (add a b) s = value_under i a s +ℤ value_under i b s
  value_under i (sub a b) s = value_under i a s -ℤ value_under i b s
  value_under i (mul a b) s = value_under i a s *ℤ value_under i b s
  value_under i (par_expr k) s = value (expr_at i k) s

  pub values_under : Instance → Exprs → Store → List ℤ
  values_under i no_exprs s = []
  values_under i (expr e es) s = value_under i e s ∷ values_under i es s

unfoldable pub truth_under : Instance → Test → Store → Bool
truth_under i (less a b) s = int_lt (value_under i a s) (value_under i b s)
truth_under i (less_eq a b) s = int_le (value_under i a s) (value_under i b s)
truth_under i (equal a b) s = int_eq (value_under i a s) (value_under i b s)
truth_under i (not_of t) s = not (truth_under i t s)
truth_under i (and_of t u) s = truth_under i t s && truth_under i u s
truth_under i (or_of t u) s = truth_under i t s || truth_under i u s
truth_under i (par_test k) s = truth (test_at i k) s
