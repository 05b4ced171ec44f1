-- Statements and lists of statements as plain trees: what a contract sees of a `Stmt` and of a `Block`.
-- `append` puts one list of statements after another.
use Rattle.std.specs.Prelude.{ℕ, suc, max}
use Rattle.toy_imp.specs.declared.name.Name.{Name}
use Rattle.toy_imp.specs.Expr.{Expr, Exprs}
use Rattle.toy_imp.specs.Test.{Test}

mutual
  pub data Stmt : Type 0 where
    skip : Stmt
    put : Name → Exprs → Expr → Stmt
    assert_that : Test → Stmt
    if_then : Test → Block → Block → Stmt
    while_do : Test → Block → Stmt
    for_to : Name → Expr → Expr → Block → Stmt
    let_in : Name → Expr → Block → Stmt
    par_stmt : ℕ → Stmt

  pub data Block : Type 0 where
    empty : Block
    stmt : Stmt → Block → Block

abbrev pub append : Block → Block → Block
append empty c = c
append (stmt s b) c = stmt s (append b c)

-- how many levels of statements and blocks a tree has, an empty block being one
abbrev mutual
  pub stmt_depth : Stmt → ℕ
  stmt_depth skip = 1
  stmt_depth (put x is e) = 1
  stmt_depth (assert_that t) = 1
  stmt_depth (if_then t b c) = suc (max (block_depth b) (block_depth c))
  stmt_depth (while_do t b) = suc (block_depth b)
  stmt_depth (for_to x lo hi b) = suc (block_depth b)
  stmt_depth (let_in x e b) = suc (block_depth b)
  stmt_depth (par_stmt k) = 1

  pub block_depth : Block → ℕ
  block_depth empty = 1
  block_depth (stmt s b) = max (suc (stmt_depth s)) (block_depth b)
