-- The grammar of statements and blocks as derivation trees, one constructor for each alternative.
-- Of a tree: its value under declared names, its levels, its operators, and the nesting of the text.
use Rattle.std.specs.Prelude.{ℕ, suc, ◌+◌, ◌/◌, max, List}
use Rattle.toy_imp.specs.declared.param.Param.{Param}
use Rattle.toy_imp.specs.Block.{Stmt, skip, put, assert_that, if_then, while_do, for_to, let_in, Block, empty, stmt}
use Rattle.toy_imp.specs.ExprGrammar.{ExprTree, PlaceTree, place_name, indices_value, expr_value, expr_levels, expr_operators, index_operators, place_levels}
use Rattle.toy_imp.specs.TestGrammar.{TestTree, test_tree_value, test_levels, test_operators}
use Rattle.toy_imp.specs.Parameters.{name_value, stmt_value}

mutual
  -- stmt : "skip" ";" | place ":=" expr ";" | "assert" test ";" | "if" test block "else" block | "while" test block
  --      | "for" ID "=" expr "to" expr block | "let" ID "=" expr block | ID ";"
  pub data StmtTree : Type 0 where
    skipped : StmtTree
    written : PlaceTree → ExprTree → StmtTree
    asserted : TestTree → StmtTree
    chosen : TestTree → StmtsTree → StmtsTree → StmtTree
    repeated : TestTree → StmtsTree → StmtTree
    counted : List ℕ → ExprTree → ExprTree → StmtsTree → StmtTree
    bound : List ℕ → ExprTree → StmtsTree → StmtTree
    named_stmt : List ℕ → StmtTree

  -- stmt*, which is a program, and in braces a block
  pub data StmtsTree : Type 0 where
    no_stmts : StmtsTree
    stmts : StmtTree → StmtsTree → StmtsTree

abbrev mutual
  pub stmt_tree_value : List Param → StmtTree → Stmt
  stmt_tree_value ps skipped = skip
  stmt_tree_value ps (written a e) = put (name_value ps (place_name a)) (indices_value ps a) (expr_value ps e)
  stmt_tree_value ps (asserted t) = assert_that (test_tree_value ps t)
  stmt_tree_value ps (chosen t b c) = if_then (test_tree_value ps t) (stmts_value ps b) (stmts_value ps c)
  stmt_tree_value ps (repeated t b) = while_do (test_tree_value ps t) (stmts_value ps b)
  stmt_tree_value ps (counted x lo hi b) = for_to (name_value ps x) (expr_value ps lo) (expr_value ps hi) (stmts_value ps b)
  stmt_tree_value ps (bound x e b) = let_in (name_value ps x) (expr_value ps e) (stmts_value ps b)
  stmt_tree_value ps (named_stmt x) = stmt_value ps x

  pub stmts_value : List Param → StmtsTree → Block
  stmts_value ps no_stmts = empty
  stmts_value ps (stmts a more) = stmt (stmt_tree_value ps a) (stmts_value ps more)

-- the greatest number of blocks, `not`, brackets and parentheses round one place of the text; an empty block counts
abbrev mutual
  pub stmt_levels : StmtTree → ℕ
  stmt_levels skipped = 0
  stmt_levels (written a e) = max (place_levels a) (expr_levels e)
  stmt_levels (asserted t) = test_levels t
  stmt_levels (chosen t b c) = max (test_levels t) (max (suc (stmts_levels b)) (suc (stmts_levels c)))
  stmt_levels (repeated t b) = max (test_levels t) (suc (stmts_levels b))
  stmt_levels (counted x lo hi b) = max (expr_levels lo) (max (expr_levels hi) (suc (stmts_levels b)))
  stmt_levels (bound x e b) = max (expr_levels e) (suc (stmts_levels b))
  stmt_levels (named_stmt x) = 0

  pub stmts_levels : StmtsTree → ℕ
  stmts_levels no_stmts = 0
  stmts_levels (stmts a more) = max (stmt_levels a) (stmts_levels more)

-- the greatest number of binary operators in one expression or test that is part of no other
abbrev mutual
  pub stmt_operators : StmtTree → ℕ
  stmt_operators skipped = 0
  stmt_operators (written a e) = max (index_operators a) (expr_operators e)
  stmt_operators (asserted t) = test_operators t
  stmt_operators (chosen t b c) = max (test_operators t) (max (stmts_operators b) (stmts_operators c))
  stmt_operators (repeated t b) = max (test_operators t) (stmts_operators b)
  stmt_operators (counted x lo hi b) = max (expr_operators lo) (max (expr_operators hi) (stmts_operators b))
  stmt_operators (bound x e b) = max (expr_operators e) (stmts_operators b)
  stmt_operators (named_stmt x) = 0

  pub stmts_operators : StmtsTree → ℕ
  stmts_operators no_stmts = 0
  stmts_operators (stmts a more) = max (stmt_operators a) (stmts_operators more)

-- the nesting of a text: its levels, or a sixty-fourth of its operators, rounded up, where that is more
abbrev pub nesting_by : ℕ → ℕ → ℕ
nesting_by levels operators = max levels ((operators + 63) / 64)

abbrev pub stmts_nesting : StmtsTree → ℕ
stmts_nesting a = nesting_by (stmts_levels a) (stmts_operators a)
