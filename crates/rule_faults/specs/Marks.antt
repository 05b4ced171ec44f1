-- Marks of the numbers of parameters: the mark at a number's place says whether its parameter was found.
-- Numbers beyond the marks have no place, and are passed over.
use Rattle.std.specs.Prelude.{ℕ, suc, Bool, ◌==◌, ◌||◌, List, [], ◌∷◌}
use Rattle.toy_imp.specs.declared.name.Name.{Name}
use Rattle.toy_imp.specs.Expr.{Expr, Exprs}
use Rattle.toy_imp.specs.Test.{Test}
use Rattle.toy_imp.specs.Block.{Stmt, Block}
use Rattle.toy_imp.specs.Faults.{is_number, occurs}
use Rattle.toy_imp.specs.Uses.{name_use, expr_any, exprs_any, test_any, stmt_any}

-- the marks of the numbers from k on, once those that are found are marked too
abbrev pub marked_from : ℕ → (ℕ → Bool) → List Bool → List Bool
marked_from k found [] = []
marked_from k found (m ∷ ms) = (m || found k) ∷ marked_from (suc k) found ms

-- the marks, once the numbers that are found are marked too
unfoldable pub marked : (ℕ → Bool) → List Bool → List Bool
marked found ms = marked_from 0 found ms

-- the marks, once one number is marked too
unfoldable pub number_marked : ℕ → List Bool → List Bool
number_marked k ms = marked (λ j. k == j) ms

-- the marks, once the numbers in a name, an expression, a test, a statement, a block are marked too
unfoldable pub name_marked : Name → List Bool → List Bool
name_marked x ms = marked (λ k. is_number k (name_use x)) ms

unfoldable pub expr_marked : Expr → List Bool → List Bool
expr_marked e ms = marked (λ k. expr_any (is_number k) e) ms

unfoldable pub exprs_marked : Exprs → List Bool → List Bool
exprs_marked es ms = marked (λ k. exprs_any (is_number k) es) ms

unfoldable pub test_marked : Test → List Bool → List Bool
test_marked t ms = marked (λ k. test_any (is_number k) t) ms

unfoldable pub stmt_marked : Stmt → List Bool → List Bool
stmt_marked s ms = marked (λ k. stmt_any (is_number k) s) ms

unfoldable pub block_marked : Block → List Bool → List Bool
block_marked b ms = marked (λ k. occurs k b) ms
