-- Where names and parameters stand in the sides of a rule: each such place with the kind that it wants.
-- What is asked of the parameters of a rule is asked of these places: whether one of them passes a test.
use Rattle.std.specs.Prelude.{ℕ, Bool, false, ◌||◌}
use Rattle.toy_imp.specs.declared.name.Name.{Name}
use Rattle.toy_imp.specs.declared.name.Name.TheVariants.{Own, Par}
use Rattle.toy_imp.specs.declared.param.Kind.{Kind}
use Rattle.toy_imp.specs.declared.param.Kind.TheVariants as kind
use Rattle.toy_imp.specs.Expr.{Expr, num, at, add, sub, mul, par_expr, Exprs, no_exprs, expr}
use Rattle.toy_imp.specs.Test.{Test, less, less_eq, equal, not_of, and_of, or_of, par_test}
use Rattle.toy_imp.specs.Block.{Stmt, skip, put, assert_that, if_then, while_do, for_to, let_in, par_stmt, Block, empty, stmt}

-- a name that is no parameter, or the number of a parameter where this kind is wanted
pub data Use : Type 0 where
  own_name : Use
  parameter : Kind → ℕ → Use

abbrev pub name_use : Name → Use
name_use (Own x) = own_name
name_use (Par k) = parameter kind.Name k

-- whether a place in an expression, a test, a statement, a block passes the test
abbrev mutual
  pub expr_any : (Use → Bool) → Expr → Bool
  expr_any test (num z) = false
  expr_any test (at x es) = test (name_use x) || exprs_any test es
  expr_any test (add a b) = expr_any test a || expr_any test b
  expr_any test (sub a b) = expr_any test a || expr_any test b
  expr_any test (mul a b) = expr_any test a || expr_any test b
  expr_any test (par_expr k) = test (parameter kind.Expr k)

  pub exprs_any : (Use → Bool) → Exprs → Bool
  exprs_any test no_exprs = false
  exprs_any test (expr e es) = expr_any test e || exprs_any test es

abbrev pub test_any : (Use → Bool) → Test → Bool
test_any test (less a b) = expr_any test a || expr_any test b
test_any test (less_eq a b) = expr_any test a || expr_any test b
test_any test (equal a b) = expr_any test a || expr_any test b
test_any test (not_of t) = test_any test t
test_any test (and_of t u) = test_any test t || test_any test u
test_any test (or_of t u) = test_any test t || test_any test u
test_any test (par_test k) = test (parameter kind.Test k)

abbrev mutual
  pub stmt_any : (Use → Bool) → Stmt → Bool
  stmt_any test skip = false
  stmt_any test (put x is e) = test (name_use x) || (exprs_any test is || expr_any test e)
  stmt_any test (assert_that t) = test_any test t
  stmt_any test (if_then t b c) = test_any test t || (block_any test b || block_any test c)
  stmt_any test (while_do t b) = test_any test t || block_any test b
  stmt_any test (for_to x lo hi b) = test (name_use x) || (expr_any test lo || (expr_any test hi || block_any test b))
  stmt_any test (let_in x e b) = test (name_use x) || (expr_any test e || block_any test b)
  stmt_any test (par_stmt k) = test (parameter kind.Stmt k)

  pub block_any : (Use → Bool) → Block → Bool
  block_any test empty = false
  block_any test (stmt s b) = stmt_any test s || block_any test b
