-- The canonical trees of a statement and of a block: the derivations of their canonical texts.
-- A declared parameter stands by its name.
use Rattle.std.specs.Prelude.{List}
use Rattle.toy_imp.specs.declared.param.Param.{Param}
use Rattle.toy_imp.specs.Block.{Stmt, skip, put, assert_that, if_then, while_do, for_to, let_in, par_stmt, Block, empty, stmt}
use Rattle.toy_imp.specs.BlockGrammar.{StmtTree, skipped, written, asserted, chosen, repeated, counted, bound, named_stmt, StmtsTree, no_stmts, stmts}
use Rattle.toy_imp.specs.ExprCanonical.{declared_name, written_name, canonical_expr, canonical_place}
use Rattle.toy_imp.specs.TestCanonical.{canonical_test}

abbrev mutual
  pub canonical_stmt : List Param → Stmt → StmtTree
  canonical_stmt ps skip = skipped
  canonical_stmt ps (put x es e) = written (canonical_place ps (written_name ps x) es) (canonical_expr ps e)
  canonical_stmt ps (assert_that t) = asserted (canonical_test ps t)
  canonical_stmt ps (if_then t b c) = chosen (canonical_test ps t) (canonical_block ps b) (canonical_block ps c)
  canonical_stmt ps (while_do t b) = repeated (canonical_test ps t) (canonical_block ps b)
  canonical_stmt ps (for_to x lo hi b) = counted (written_name ps x) (canonical_expr ps lo) (canonical_expr ps hi) (canonical_block ps b)
  canonical_stmt ps (let_in x e b) = bound (written_name ps x) (canonical_expr ps e) (canonical_block ps b)
  canonical_stmt ps (par_stmt k) = named_stmt (declared_name ps k)

  pub canonical_block : List Param → Block → StmtsTree
  canonical_block ps empty = no_stmts
  canonical_block ps (stmt s b) = stmts (canonical_stmt ps s) (canonical_block ps b)
