-- The value of a filled expression is its value under the instance, and so the truth of a filled test.
-- By the structure of the expression and of the test.
use Rattle.std.specs.Prelude.{◌≡◌, ◌+ℤ◌, ◌-ℤ◌, ◌*ℤ◌, ◌∷◌, not, ◌&&◌, ◌||◌, int_lt, int_le, refl}
use Rattle.std.specs.Ordering.{int_eq}
use Rattle.std.proofs.Common.{ap, ap₂}
use Rattle.toy_imp.specs.declared.instance.Instance.{Instance}
use Rattle.toy_imp.specs.Cell.{spelled}
use Rattle.toy_imp.specs.Store.{Store, read}
use Rattle.toy_imp.specs.Value.{value, values}
use Rattle.toy_imp.specs.Truth.{truth}
use Rattle.toy_imp.specs.Expr.{Expr, num, at, add, sub, mul, par_expr, Exprs, no_exprs, expr}
use Rattle.toy_imp.specs.Test.{Test, less, less_eq, equal, not_of, and_of, or_of, par_test}
use Rattle.toy_imp.specs.Fill.{fill_name, fill_expr, fill_exprs, fill_test}
use Rattle.param_meaning.specs.Under.{value_under, values_under, truth_under}

mutual
  unfolding value fill_expr value_under values fill_exprs values_under

  pub value_of_filled : (i : Instance) (e : Expr) (s : Store) → value (fill_expr i e) s ≡ value_under i e s
  value_of_filled i (num z) s = refl
  value_of_filled i (at x es) s = ap (λ vs. read s (spelled (fill_name i x), vs)) (values_of_filled i es s)
  value_of_filled i (add a b) s = ap₂ (λ v w. v +ℤ w) (value_of_filled i a s) (value_of_filled i b s)
  value_of_filled i (sub a b) s = ap₂ (λ v w. v -ℤ w) (value_of_filled i a s) (value_of_filled i b s)
  value_of_filled i (mul a b) s = ap₂ (λ v w. v *ℤ w) (value_of_filled i a s) (value_of_filled i b s)
  value_of_filled i (par_expr k) s = refl

  pub values_of_filled : (i : Instance) (es : Exprs) (s : Store) → values (fill_exprs i es) s ≡ values_under i es s
  values_of_filled i no_exprs s = refl
  values_of_filled i (expr e es) s = ap₂ (λ v vs. v ∷ vs) (value_of_filled i e s) (values_of_filled i es s)

pub truth_of_filled : (i : Instance) (t : Test) (s : Store) → truth (fill_test i t) s ≡ truth_under i t s
unfolding truth fill_test truth_under
truth_of_filled i (less a b) s = ap₂ int_lt (value_of_filled i a s) (value_of_filled i b s)
truth_of_filled i (less_eq a b) s = ap₂ int_le (value_of_filled i a s) (value_of_filled i b s)
truth_of_filled i (equal a b) s = ap₂ int_eq (value_of_filled i a s) (value_of_filled i b s)
truth_of_filled i (not_of t) s = ap not (truth_of_filled i t s)
truth_of_filled i (and_of t u) s = ap₂ (λ p q. p && q) (truth_of_filled i t s) (truth_of_filled i u s)
truth_of_filled i (or_of t u) s = ap₂ (λ p q. p || q) (truth_of_filled i t s) (truth_of_filled i u s)
truth_of_filled i (par_test k) s = refl
