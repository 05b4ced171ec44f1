-- What stands at each point of a side: the statements from there on, where a body of a `while` is followed by the `while`.
-- They are program locations in the usual sense.
use Rattle.std.specs.Prelude.{ℕ, suc, ◌+◌, List, [], ◌∷◌, ◌++◌}
use Rattle.std.specs.Prelude.{slice_index_or}
use Rattle.toy_imp.specs.Block.{Stmt, skip, put, assert_that, if_then, while_do, for_to, let_in, par_stmt, Block, empty, stmt, append}
use Rattle.toy_imp.specs.Points.{stmt_count, point_count}

-- the number of the first point in some statements of a side, and the statements
pub data Stretch : Type 0 where
  stretch : ℕ → Block → Stretch

-- stretches that are run one after another
abbrev pub Rest : Type 0
Rest = List Stretch

-- its statements
abbrev pub rest_statements : Rest → Block
rest_statements [] = empty
rest_statements (stretch n b ∷ rest) = append b (rest_statements rest)

-- what stands at the statement parameters and `while`s, in text order
abbrev mutual
  -- .. of a statement whose first point has this number: `here` it stands next itself, `behind` what follows it
  pub stmt_rests : ℕ → Stmt → Rest → Rest → List Rest
  stmt_rests n skip here behind = []
  stmt_rests n (put x is e) here behind = []
  stmt_rests n (assert_that t) here behind = []
  stmt_rests n (if_then t b c) here behind = block_rests n b behind ++ block_rests (n + point_count b) c behind
  stmt_rests n (while_do t b) here behind = here ∷ block_rests (suc n) b here
  stmt_rests n (for_to x lo hi b) here behind = []
  stmt_rests n (let_in x e b) here behind = []
  stmt_rests n (par_stmt k) here behind = here ∷ []

  -- .. of a block
  pub block_rests : ℕ → Block → Rest → List Rest
  block_rests n empty after = []
  block_rests n (stmt s b) after = stmt_rests n s (stretch n (stmt s b) ∷ after) (stretch (n + stmt_count s) b ∷ after) ++ block_rests (n + stmt_count s) b after

-- what stands at the points before the exit, in their order: the start is 0
abbrev pub rests : Block → List Rest
rests side = (stretch 1 side ∷ []) ∷ block_rests 1 side []

-- what stands at a point; nothing at the exit
abbrev pub rest_at : Block → ℕ → Rest
rest_at side p = slice_index_or (rests side) p []
