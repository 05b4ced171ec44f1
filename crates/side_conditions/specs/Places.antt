-- Where a block reads and where it writes, by its text. A place is a name with its indices.
-- A block writes at its writes, and at each `for` and `let`, which sets a name without indices. It reads at the places in its
-- expressions and tests, indices included, and those of an `assert` too.
use Rattle.std.specs.Prelude.{Bool, false, true, ◌||◌}
use Rattle.toy_imp.specs.declared.name.Name.{Name}
use Rattle.toy_imp.specs.Expr.{Expr, num, at, add, sub, mul, par_expr, Exprs, no_exprs, expr}
use Rattle.toy_imp.specs.Test.{Test, less, less_eq, equal, not_of, and_of, or_of, par_test}
use Rattle.toy_imp.specs.Block.{Stmt, skip, put, assert_that, if_then, while_do, for_to, let_in, par_stmt, Block, empty, stmt}

-- whether some place in an expression is of this kind
abbrev mutual
  pub expr_has : (Name → Exprs → Bool) → Expr → Bool
  expr_has kind (num z) = false
  expr_has kind (at x es) = kind x es || exprs_have kind es
  expr_has kind (add a b) = expr_has kind a || expr_has kind b
  expr_has kind (sub a b) = expr_has kind a || expr_has kind b
  expr_has kind (mul a b) = expr_has kind a || expr_has kind b
  expr_has kind (par_expr k) = false

  pub exprs_have : (Name → Exprs → Bool) → Exprs → Bool
  exprs_have kind no_exprs = false
  exprs_have kind (expr e es) = expr_has kind e || exprs_have kind es

abbrev pub test_has : (Name → Exprs → Bool) → Test → Bool
test_has kind (less a b) = expr_has kind a || expr_has kind b
test_has kind (less_eq a b) = expr_has kind a || expr_has kind b
test_has kind (equal a b) = expr_has kind a || expr_has kind b
test_has kind (not_of t) = test_has kind t
test_has kind (and_of t u) = test_has kind t || test_has kind u
test_has kind (or_of t u) = test_has kind t || test_has kind u
test_has kind (par_test k) = false

-- whether a block reads at such a place
abbrev mutual
  pub stmt_reads : (Name → Exprs → Bool) → Stmt → Bool
  stmt_reads kind skip = false
  stmt_reads kind (put x is e) = exprs_have kind is || expr_has kind e
  stmt_reads kind (assert_that t) = test_has kind t
  stmt_reads kind (if_then t b c) = test_has kind t || (block_reads kind b || block_reads kind c)
  stmt_reads kind (while_do t b) = test_has kind t || block_reads kind b
  stmt_reads kind (for_to x lo hi b) = expr_has kind lo || (expr_has kind hi || block_reads kind b)
  stmt_reads kind (let_in x e b) = expr_has kind e || block_reads kind b
  stmt_reads kind (par_stmt k) = false

  pub block_reads : (Name → Exprs → Bool) → Block → Bool
  block_reads kind empty = false
  block_reads kind (stmt s b) = stmt_reads kind s || block_reads kind b

-- .. and whether it writes at one
abbrev mutual
  pub stmt_writes : (Name → Exprs → Bool) → Stmt → Bool
  stmt_writes kind skip = false
  stmt_writes kind (put x is e) = kind x is
  stmt_writes kind (assert_that t) = false
  stmt_writes kind (if_then t b c) = block_writes kind b || block_writes kind c
  stmt_writes kind (while_do t b) = block_writes kind b
  stmt_writes kind (for_to x lo hi b) = kind x no_exprs || block_writes kind b
  stmt_writes kind (let_in x e b) = kind x no_exprs || block_writes kind b
  stmt_writes kind (par_stmt k) = false

  pub block_writes : (Name → Exprs → Bool) → Block → Bool
  block_writes kind empty = false
  block_writes kind (stmt s b) = stmt_writes kind s || block_writes kind b

-- whether an `assert` stands in a block, at any depth
abbrev mutual
  pub stmt_asserts : Stmt → Bool
  stmt_asserts skip = false
  stmt_asserts (put x is e) = false
  stmt_asserts (assert_that t) = true
  stmt_asserts (if_then t b c) = block_asserts b || block_asserts c
  stmt_asserts (while_do t b) = block_asserts b
  stmt_asserts (for_to x lo hi b) = block_asserts b
  stmt_asserts (let_in x e b) = block_asserts b
  stmt_asserts (par_stmt k) = false

  pub block_asserts : Block → Bool
  block_asserts empty = false
  block_asserts (stmt s b) = stmt_asserts s || block_asserts b
