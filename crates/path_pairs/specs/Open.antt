-- Tests and statements in which every name is a parameter, as in a rule that is well formed.
use Rattle.std.specs.Prelude.{Bool, true, ◌&&◌}
use Rattle.toy_imp.specs.Test.{Test, less, less_eq, equal, not_of, and_of, or_of, par_test}
use Rattle.toy_imp.specs.Block.{Stmt, skip, put, assert_that, if_then, while_do, for_to, let_in, par_stmt, Block, empty, stmt}
use Rattle.rule_terms.specs.ValueAt.{is_open, names_are_open, all_names_are_open}

abbrev pub test_is_open : Test → Bool
test_is_open (less a b) = names_are_open a && names_are_open b
test_is_open (less_eq a b) = names_are_open a && names_are_open b
test_is_open (equal a b) = names_are_open a && names_are_open b
test_is_open (not_of t) = test_is_open t
test_is_open (and_of t u) = test_is_open t && test_is_open u
test_is_open (or_of t u) = test_is_open t && test_is_open u
test_is_open (par_test k) = true

abbrev mutual
  pub stmt_is_open : Stmt → Bool
  stmt_is_open skip = true
  stmt_is_open (put x is e) = is_open x && (all_names_are_open is && names_are_open e)
  stmt_is_open (assert_that t) = test_is_open t
  stmt_is_open (if_then t b c) = test_is_open t && (block_is_open b && block_is_open c)
  stmt_is_open (while_do t b) = test_is_open t && block_is_open b
  stmt_is_open (for_to x lo hi b) = is_open x && (names_are_open lo && (names_are_open hi && block_is_open b))
  stmt_is_open (let_in x e b) = is_open x && (names_are_open e && block_is_open b)
  stmt_is_open (par_stmt k) = true

  pub block_is_open : Block → Bool
  block_is_open empty = true
  block_is_open (stmt s b) = stmt_is_open s && block_is_open b
