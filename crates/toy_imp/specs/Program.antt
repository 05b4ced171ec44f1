-- A block is a program where it holds no parameter, of any kind, at any depth.
-- The same of names, expressions, indices and tests.
use Rattle.std.specs.Prelude.{Bool, true, false, ◌&&◌}
use Rattle.toy_imp.specs.declared.name.Name.{Name}
use Rattle.toy_imp.specs.declared.name.Name.TheVariants.{Own, Par}
use Rattle.toy_imp.specs.Expr.{Expr, num, at, add, sub, mul, par_expr, Exprs, no_exprs, expr}
use Rattle.toy_imp.specs.Test.{Test, less, less_eq, equal, not_of, and_of, or_of, par_test}
use Rattle.toy_imp.specs.Block.{Stmt, skip, put, assert_that, if_then, while_do, for_to, let_in, par_stmt, Block, empty, stmt}

abbrev pub is_own : Name → Bool
is_own (Own bytes) = true
is_own (Par k) = false

abbrev mutual
  pub is_closed : Expr → Bool
  is_closed (num z) = true
  is_closed (at x es) = is_own x && are_closed es
  is_closed (add a b) = is_closed a && is_closed b
  is_closed (sub a b) = is_closed a && is_closed b
  is_closed (mul a b) = is_closed a && is_closed b
  is_closed (par_expr k) = false

  pub are_closed : Exprs → Bool
  are_closed no_exprs = true
  are_closed (expr e es) = is_closed e && are_closed es

abbrev pub is_closed_test : Test → Bool
is_closed_test (less a b) = is_closed a && is_closed b
is_closed_test (less_eq a b) = is_closed a && is_closed b
is_closed_test (equal a b) = is_closed a && is_closed b
is_closed_test (not_of t) = is_closed_test t
is_closed_test (and_of t u) = is_closed_test t && is_closed_test u
is_closed_test (or_of t u) = is_closed_test t && is_closed_test u
is_closed_test (par_test k) = false

abbrev mutual
  pub is_closed_stmt : Stmt → Bool
  is_closed_stmt skip = true
  is_closed_stmt (put x is e) = is_own x && (are_closed is && is_closed e)
  is_closed_stmt (assert_that t) = is_closed_test t
  is_closed_stmt (if_then t b c) = is_closed_test t && (is_program b && is_program c)
  is_closed_stmt (while_do t b) = is_closed_test t && is_program b
  is_closed_stmt (for_to x lo hi b) = is_own x && (is_closed lo && (is_closed hi && is_program b))
  is_closed_stmt (let_in x e b) = is_own x && (is_closed e && is_program b)
  is_closed_stmt (par_stmt k) = false

  pub is_program : Block → Bool
  is_program empty = true
  is_program (stmt s b) = is_closed_stmt s && is_program b
