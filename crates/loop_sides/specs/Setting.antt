-- Which names the loops and `let`s of a block set, and round which statement parameters they do so.
use Rattle.std.specs.Prelude.{ℕ, Bool, false, ◌||◌, ◌&&◌, ◌==◌}
use Rattle.toy_imp.specs.declared.name.Name.{Name}
use Rattle.toy_imp.specs.declared.name.Name.TheVariants.{Own, Par}
use Rattle.toy_imp.specs.Block.{Stmt, skip, put, assert_that, if_then, while_do, for_to, let_in, par_stmt, Block, empty, stmt}

-- whether a name is the parameter of this number
abbrev pub is_parameter : ℕ → Name → Bool
is_parameter k (Own x) = false
is_parameter k (Par j) = j == k

-- whether a statement parameter stands in a block, at any depth
abbrev mutual
  pub stmt_holds : ℕ → Stmt → Bool
  stmt_holds k skip = false
  stmt_holds k (put x is e) = false
  stmt_holds k (assert_that t) = false
  stmt_holds k (if_then t b c) = block_holds k b || block_holds k c
  stmt_holds k (while_do t b) = block_holds k b
  stmt_holds k (for_to x lo hi b) = block_holds k b
  stmt_holds k (let_in x e b) = block_holds k b
  stmt_holds k (par_stmt j) = j == k

  pub block_holds : ℕ → Block → Bool
  block_holds k empty = false
  block_holds k (stmt s b) = stmt_holds k s || block_holds k b

-- whether some `for` or `let` of a block, at any depth, sets a name
abbrev mutual
  pub stmt_sets : ℕ → Stmt → Bool
  stmt_sets x skip = false
  stmt_sets x (put y is e) = false
  stmt_sets x (assert_that t) = false
  stmt_sets x (if_then t b c) = block_sets x b || block_sets x c
  stmt_sets x (while_do t b) = block_sets x b
  stmt_sets x (for_to y lo hi b) = is_parameter x y || block_sets x b
  stmt_sets x (let_in y e b) = is_parameter x y || block_sets x b
  stmt_sets x (par_stmt j) = false

  pub block_sets : ℕ → Block → Bool
  block_sets x empty = false
  block_sets x (stmt s b) = stmt_sets x s || block_sets x b

-- .. round a place of a statement parameter
abbrev mutual
  pub stmt_sets_round : ℕ → ℕ → Stmt → Bool
  stmt_sets_round x k skip = false
  stmt_sets_round x k (put y is e) = false
  stmt_sets_round x k (assert_that t) = false
  stmt_sets_round x k (if_then t b c) = sets_round x k b || sets_round x k c
  stmt_sets_round x k (while_do t b) = sets_round x k b
  stmt_sets_round x k (for_to y lo hi b) = (is_parameter x y && block_holds k b) || sets_round x k b
  stmt_sets_round x k (let_in y e b) = (is_parameter x y && block_holds k b) || sets_round x k b
  stmt_sets_round x k (par_stmt j) = false

  pub sets_round : ℕ → ℕ → Block → Bool
  sets_round x k empty = false
  sets_round x k (stmt s b) = stmt_sets_round x k s || sets_round x k b
