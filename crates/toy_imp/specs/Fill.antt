-- A block filled by an instance: each parameter is replaced by its filling, and a statement parameter's block is spliced into the list.
-- A parameter without a filling of its kind stays.
use Rattle.std.specs.Prelude.{ℕ, Option, Some, None, slice_get}
use Rattle.toy_imp.specs.declared.name.Name.{Name}
use Rattle.toy_imp.specs.declared.name.Name.TheVariants.{Own, Par}
use Rattle.toy_imp.specs.declared.instance.Filling.{Filling}
use Rattle.toy_imp.specs.declared.instance.Filling.TheVariants as filling
use Rattle.toy_imp.specs.declared.instance.Instance.{Instance}
use Rattle.toy_imp.specs.Expr.{Expr, num, at, add, sub, mul, par_expr, Exprs, no_exprs, expr}
use Rattle.toy_imp.specs.Test.{Test, less, less_eq, equal, not_of, and_of, or_of, par_test}
use Rattle.toy_imp.specs.Block.{Stmt, skip, put, assert_that, if_then, while_do, for_to, let_in, par_stmt, Block, empty, stmt, append}

-- what stands for a parameter of each kind, by the filling at its number
abbrev pub name_by : ℕ → Option Filling → Name
name_by k None = Par k
name_by k (Some (filling.Name x)) = x
name_by k (Some (filling.Expr e)) = Par k
name_by k (Some (filling.Test t)) = Par k
name_by k (Some (filling.Stmt b)) = Par k

abbrev pub expr_by : ℕ → Option Filling → Expr
expr_by k None = par_expr k
expr_by k (Some (filling.Name x)) = par_expr k
expr_by k (Some (filling.Expr e)) = e
expr_by k (Some (filling.Test t)) = par_expr k
expr_by k (Some (filling.Stmt b)) = par_expr k

abbrev pub test_by : ℕ → Option Filling → Test
test_by k None = par_test k
test_by k (Some (filling.Name x)) = par_test k
test_by k (Some (filling.Expr e)) = par_test k
test_by k (Some (filling.Test t)) = t
test_by k (Some (filling.Stmt b)) = par_test k

abbrev pub block_by : ℕ → Option Filling → Block
block_by k None = stmt (par_stmt k) empty
block_by k (Some (filling.Name x)) = stmt (par_stmt k) empty
block_by k (Some (filling.Expr e)) = stmt (par_stmt k) empty
block_by k (Some (filling.Test t)) = stmt (par_stmt k) empty
block_by k (Some (filling.Stmt b)) = b

abbrev pub name_at : Instance → ℕ → Name
name_at i k = name_by k (slice_get i.fillings k)

abbrev pub expr_at : Instance → ℕ → Expr
expr_at i k = expr_by k (slice_get i.fillings k)

abbrev pub test_at : Instance → ℕ → Test
test_at i k = test_by k (slice_get i.fillings k)

abbrev pub block_at : Instance → ℕ → Block
block_at i k = block_by k (slice_get i.fillings k)

unfoldable pub fill_name : Instance → Name → Name
fill_name i (Own bytes) = Own bytes
fill_name i (Par k) = name_at i k

unfoldable mutual
  pub fill_expr : Instance → Expr → Expr
  fill_expr i (num z) = num z
  fill_expr i (at x es) = at (fill_name i x) (fill_exprs i es)
  fill_expr i (add a b) = add (fill_expr i a) (fill_expr i b)
  fill_expr i (sub a b) = sub (fill_expr i a) (fill_expr i b)
  fill_expr i (mul a b) = mul (fill_expr i a) (fill_expr i b)
  fill_expr i (par_expr k) = expr_at i k

  pub fill_exprs : Instance → Exprs → Exprs
  fill_exprs i no_exprs = no_exprs
  fill_exprs i (expr e es) = expr (fill_expr i e) (fill_exprs i es)

unfoldable pub fill_test : Instance → Test → Test
fill_test i (less a b) = less (fill_expr i a) (fill_expr i b)
fill_test i (less_eq a b) = less_eq (fill_expr i a) (fill_expr i b)
fill_test i (equal a b) = equal (fill_expr i a) (fill_expr i b)
fill_test i (not_of t) = not_of (fill_test i t)
fill_test i (and_of t u) = and_of (fill_test i t) (fill_test i u)
fill_test i (or_of t u) = or_of (fill_test i t) (fill_test i u)
fill_test i (par_test k) = test_at i k

-- a statement filled, in front of the rest of its list
unfoldable mutual
  pub fill_stmt : Instance → Stmt → Block → Block
  fill_stmt i skip rest = stmt skip rest
  fill_stmt i (put x is e) rest = stmt (put (fill_name i x) (fill_exprs i is) (fill_expr i e)) rest
  fill_stmt i (assert_that t) rest = stmt (assert_that (fill_test i t)) rest
  fill_stmt i (if_then t b c) rest = stmt (if_then (fill_test i t) (fill i b) (fill i c)) rest
  fill_stmt i (while_do t b) rest = stmt (while_do (fill_test i t) (fill i b)) rest
  fill_stmt i (for_to x lo hi b) rest = stmt (for_to (fill_name i x) (fill_expr i lo) (fill_expr i hi) (fill i b)) rest
  fill_stmt i (let_in x e b) rest = stmt (let_in (fill_name i x) (fill_expr i e) (fill i b)) rest
  fill_stmt i (par_stmt k) rest = append (block_at i k) rest

  pub fill : Instance → Block → Block
  fill i empty = empty
  fill i (stmt s b) = fill_stmt i s (fill i b)
