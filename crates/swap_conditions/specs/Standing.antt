-- The places that stand in a block, read or written, at any depth. Each `for` and `let` counts as a place without indices.
use Rattle.std.specs.Prelude.{ℕ, Bool, false, not, ◌&&◌, ◌||◌, List}
use Rattle.toy_imp.specs.declared.name.Name.{Name}
use Rattle.toy_imp.specs.Expr.{Exprs, no_exprs}
use Rattle.toy_imp.specs.Block.{Stmt, skip, put, assert_that, if_then, while_do, for_to, let_in, par_stmt, Block, empty, stmt}
use Rattle.side_conditions.specs.Places.{expr_has, exprs_have, test_has}
use Rattle.side_conditions.specs.Seeking.{named}

-- whether a place of this kind stands in a block
abbrev mutual
  pub stmt_has : (Name → Exprs → Bool) → Stmt → Bool
  stmt_has kind skip = false
  stmt_has kind (put x is e) = kind x is || (exprs_have kind is || expr_has kind e)
  stmt_has kind (assert_that t) = test_has kind t
  stmt_has kind (if_then t b c) = test_has kind t || (block_has kind b || block_has kind c)
  stmt_has kind (while_do t b) = test_has kind t || block_has kind b
  stmt_has kind (for_to x lo hi b) = kind x no_exprs || (expr_has kind lo || (expr_has kind hi || block_has kind b))
  stmt_has kind (let_in x e b) = kind x no_exprs || (expr_has kind e || block_has kind b)
  stmt_has kind (par_stmt k) = false

  pub block_has : (Name → Exprs → Bool) → Block → Bool
  block_has kind empty = false
  block_has kind (stmt s b) = stmt_has kind s || block_has kind b

-- whether each place of a name in a block has good indices
abbrev pub every_place : List ℕ → (Exprs → Bool) → Block → Bool
every_place z good b = not (block_has (λ x es. named z x es && not (good es)) b)
