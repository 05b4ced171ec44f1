-- Whether each parameter in a tree passes a test of its kind and number.
-- A name, an expression, a test or a block without parameters passes every test.
use Rattle.std.specs.Prelude.{ℕ, Bool, true, ◌&&◌}
use Rattle.toy_imp.specs.declared.name.Name.{Name}
use Rattle.toy_imp.specs.declared.name.Name.TheVariants.{Own, Par}
use Rattle.toy_imp.specs.declared.param.Kind.{Kind}
use Rattle.toy_imp.specs.declared.param.Kind.TheVariants as kind
use Rattle.toy_imp.specs.Expr.{Expr, num, at, add, sub, mul, par_expr, Exprs, no_exprs, expr}
use Rattle.toy_imp.specs.Test.{Test, less, less_eq, equal, not_of, and_of, or_of, par_test}
use Rattle.toy_imp.specs.Block.{Stmt, skip, put, assert_that, if_then, while_do, for_to, let_in, par_stmt, Block, empty, stmt}

abbrev pub each_in_name : (Kind → ℕ → Bool) → Name → Bool
each_in_name q (Own bytes) = true
each_in_name q (Par k) = q kind.Name k

unfoldable mutual
  pub each_in_expr : (Kind → ℕ → Bool) → Expr → Bool
  each_in_expr q (num z) = true
  each_in_expr q (at x es) = each_in_name q x && each_in_exprs q es
  each_in_expr q (add a b) = each_in_expr q a && each_in_expr q b
  each_in_expr q (sub a b) = each_in_expr q a && each_in_expr q b
  each_in_expr q (mul a b) = each_in_expr q a && each_in_expr q b
  each_in_expr q (par_expr k) = q kind.Expr k

  pub each_in_exprs : (Kind → ℕ → Bool) → Exprs → Bool
  each_in_exprs q no_exprs = true
  each_in_exprs q (expr e es) = each_in_expr q e && each_in_exprs q es

unfoldable pub each_in_test : (Kind → ℕ → Bool) → Test → Bool
each_in_test q (less a b) = each_in_expr q a && each_in_expr q b
each_in_test q (less_eq a b) = each_in_expr q a && each_in_expr q b
each_in_test q (equal a b) = each_in_expr q a && each_in_expr q b
each_in_test q (not_of t) = each_in_test q t
each_in_test q (and_of t u) = each_in_test q t && each_in_test q u
each_in_test q (or_of t u) = each_in_test q t && each_in_test q u
each_in_test q (par_test k) = q kind.Test k

unfoldable mutual
  pub each_in_stmt : (Kind → ℕ → Bool) → Stmt → Bool
  each_in_stmt q skip = true
  each_in_stmt q (put x is e) = each_in_name q x && (each_in_exprs q is && each_in_expr q e)
  each_in_stmt q (assert_that t) = each_in_test q t
  each_in_stmt q (if_then t b c) = each_in_test q t && (each_in q b && each_in q c)
  each_in_stmt q (while_do t b) = each_in_test q t && each_in q b
  each_in_stmt q (for_to x lo hi b) = each_in_name q x && (each_in_expr q lo && (each_in_expr q hi && each_in q b))
  each_in_stmt q (let_in x e b) = each_in_name q x && (each_in_expr q e && each_in q b)
  each_in_stmt q (par_stmt k) = q kind.Stmt k

  pub each_in : (Kind → ℕ → Bool) → Block → Bool
  each_in q empty = true
  each_in q (stmt s b) = each_in_stmt q s && each_in q b
