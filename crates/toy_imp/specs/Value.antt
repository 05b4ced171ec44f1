-- The value of an expression in a store is a whole number of any size, by the structure of the expression.
-- A parameter that stands for no expression is 0; indices are evaluated in the same store.
use Rattle.std.specs.Prelude.{ℤ, pos, ◌+ℤ◌, ◌-ℤ◌, ◌*ℤ◌, List, [], ◌∷◌}
use Rattle.toy_imp.specs.Cell.{spelled}
use Rattle.toy_imp.specs.Store.{Store, read}
use Rattle.toy_imp.specs.Expr.{Expr, num, at, add, sub, mul, par_expr, Exprs, no_exprs, expr}

unfoldable mutual
  pub value : Expr → Store → ℤ
  value (num z) s = z
  value (at x es) s = read s (spelled x, values es s)
  value (add a b) s = value a s +ℤ value b s
  value (sub a b) s = value a s -ℤ value b s
  value (mul a b) s = value a s *ℤ value b s
  value (par_expr k) s = pos 0

  pub values : Exprs → Store → List ℤ
  values no_exprs s = []
  values (expr e es) s = value e s ∷ values es s
