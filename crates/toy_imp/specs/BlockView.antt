-- The plain trees of a statement and of a block, from parts that are trees already.
-- Lists of expressions and of statements are lists there and trees here.
use Rattle.std.specs.Prelude.{List, [], ◌∷◌}
use Rattle.toy_imp.specs.ExprView.{exprs_of}
use Rattle.toy_imp.specs.Block.{Stmt, skip, put, assert_that, if_then, while_do, for_to, let_in, par_stmt, Block, empty, stmt}
use Rattle.toy_imp.specs.declared.block.StmtNode.{StmtNode}
use Rattle.toy_imp.specs.declared.block.StmtNode.TheVariants.{Skip, Put, Assert, If, While, For, Let, Par}

abbrev pub block_of : List Stmt → Block
block_of [] = empty
block_of (s ∷ ss) = stmt s (block_of ss)

abbrev pub stmt_of : StmtNode → Stmt
stmt_of Skip = skip
stmt_of (Put x is e) = put x (exprs_of is) e
stmt_of (Assert t) = assert_that t
stmt_of (If t b c) = if_then t b c
stmt_of (While t b) = while_do t b
stmt_of (For x lo hi b) = for_to x lo hi b
stmt_of (Let x e b) = let_in x e b
stmt_of (Par k) = par_stmt k
