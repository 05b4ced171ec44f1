-- A fold over the places of a text, read or written, in the order of a walk.
use Rattle.toy_imp.specs.declared.name.Name.{Name}
use Rattle.toy_imp.specs.Expr.{Expr, num, at, add, sub, mul, par_expr, Exprs, no_exprs, expr}
use Rattle.toy_imp.specs.Test.{Test, less, less_eq, equal, not_of, and_of, or_of, par_test}
use Rattle.toy_imp.specs.Block.{Stmt, skip, put, assert_that, if_then, while_do, for_to, let_in, par_stmt, Block, empty, stmt}

abbrev mutual
  pub expr_fold : {A : Type 0} → (Name → Exprs → A → A) → Expr → A → A
  expr_fold turn (num z) a = a
  expr_fold turn (at x es) a = exprs_fold turn es (turn x es a)
  expr_fold turn (add e f) a = expr_fold turn f (expr_fold turn e a)
  expr_fold turn (sub e f) a = expr_fold turn f (expr_fold turn e a)
  expr_fold turn (mul e f) a = expr_fold turn f (expr_fold turn e a)
  expr_fold turn (par_expr k) a = a

  pub exprs_fold : {A : Type 0} → (Name → Exprs → A → A) → Exprs → A → A
  exprs_fold turn no_exprs a = a
  exprs_fold turn (expr e es) a = exprs_fold turn es (expr_fold turn e a)

abbrev pub test_fold : {A : Type 0} → (Name → Exprs → A → A) → Test → A → A
test_fold turn (less e f) a = expr_fold turn f (expr_fold turn e a)
test_fold turn (less_eq e f) a = expr_fold turn f (expr_fold turn e a)
test_fold turn (equal e f) a = expr_fold turn f (expr_fold turn e a)
test_fold turn (not_of t) a = test_fold turn t a
test_fold turn (and_of t u) a = test_fold turn u (test_fold turn t a)
test_fold turn (or_of t u) a = test_fold turn u (test_fold turn t a)
test_fold turn (par_test k) a = a

abbrev mutual
  pub stmt_fold : {A : Type 0} → (Name → Exprs → A → A) → Stmt → A → A
  stmt_fold turn skip a = a
  stmt_fold turn (put x is e) a = expr_fold turn e (exprs_fold turn is (turn x is a))
  stmt_fold turn (assert_that t) a = test_fold turn t a
  stmt_fold turn (if_then t b c) a = block_fold turn c (block_fold turn b (test_fold turn t a))
  stmt_fold turn (while_do t b) a = block_fold turn b (test_fold turn t a)
  stmt_fold turn (for_to x lo hi b) a = block_fold turn b (expr_fold turn hi (expr_fold turn lo (turn x no_exprs a)))
  stmt_fold turn (let_in x e b) a = block_fold turn b (expr_fold turn e (turn x no_exprs a))
  stmt_fold turn (par_stmt k) a = a

  pub block_fold : {A : Type 0} → (Name → Exprs → A → A) → Block → A → A
  block_fold turn empty a = a
  block_fold turn (stmt s b) a = block_fold turn b (stmt_fold turn s a)
