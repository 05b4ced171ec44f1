-- What a run reads and what it writes: the cells, in order, step by step.
-- A step reads the cells of its expressions and of its test. To keep the old value of a variable is a read of it, and to give the
-- value back is a write.
use Rattle.std.specs.Prelude.{ℕ, zero, suc, ℤ, cond, List, [], ◌∷◌, ◌++◌, Option, Some, None, int_lt}
use Rattle.toy_imp.specs.Cell.{Cell, spelled, variable}
use Rattle.toy_imp.specs.Store.{Store, write}
use Rattle.toy_imp.specs.Value.{value, values}
use Rattle.toy_imp.specs.Expr.{Expr, num, at, add, sub, mul, par_expr, Exprs, no_exprs, expr}
use Rattle.toy_imp.specs.Test.{Test, less, less_eq, equal, not_of, and_of, or_of, par_test}
use Rattle.toy_imp.specs.Block.{skip, put, assert_that, if_then, while_do, for_to, let_in, par_stmt}
use Rattle.toy_imp.specs.Run.{Item, act, turns, restore, halt, Done, step, Outcome, ended, halted}

-- the cells that evaluation reads
abbrev mutual
  pub expr_cells : Expr → Store → List Cell
  expr_cells (num z) s = []
  expr_cells (at x es) s = exprs_cells es s ++ (spelled x, values es s) ∷ []
  expr_cells (add a b) s = expr_cells a s ++ expr_cells b s
  expr_cells (sub a b) s = expr_cells a s ++ expr_cells b s
  expr_cells (mul a b) s = expr_cells a s ++ expr_cells b s
  expr_cells (par_expr k) s = []

  pub exprs_cells : Exprs → Store → List Cell
  exprs_cells no_exprs s = []
  exprs_cells (expr e es) s = expr_cells e s ++ exprs_cells es s

abbrev pub test_cells : Test → Store → List Cell
test_cells (less a b) s = expr_cells a s ++ expr_cells b s
test_cells (less_eq a b) s = expr_cells a s ++ expr_cells b s
test_cells (equal a b) s = expr_cells a s ++ expr_cells b s
test_cells (not_of t) s = test_cells t s
test_cells (and_of t u) s = test_cells t s ++ test_cells u s
test_cells (or_of t u) s = test_cells t s ++ test_cells u s
test_cells (par_test k) s = []

-- the cells that a step reads
abbrev pub step_reads : Item → Store → List Cell
step_reads (act skip) s = []
step_reads (act (put x is e)) s = exprs_cells is s ++ expr_cells e s
step_reads (act (assert_that t)) s = test_cells t s
step_reads (act (if_then t b c)) s = test_cells t s
step_reads (act (while_do t b)) s = test_cells t s
step_reads (act (for_to x lo hi b)) s = expr_cells lo s ++ (expr_cells hi s ++ variable x ∷ [])
step_reads (act (let_in x e b)) s = expr_cells e s ++ variable x ∷ []
step_reads (act (par_stmt k)) s = []
step_reads (turns x k hi b) s = []
step_reads (restore x v) s = []
step_reads halt s = []

-- a write: a cell and the number that it gets
abbrev pub Write : Type 0
Write = Cell × ℤ

-- what a step writes
abbrev pub step_writes : Item → Store → List Write
step_writes (act skip) s = []
step_writes (act (put x is e)) s = ((spelled x, values is s), value e s) ∷ []
step_writes (act (assert_that t)) s = []
step_writes (act (if_then t b c)) s = []
step_writes (act (while_do t b)) s = []
step_writes (act (for_to x lo hi b)) s = []
step_writes (act (let_in x e b)) s = (variable x, value e s) ∷ []
step_writes (act (par_stmt k)) s = []
step_writes (turns x k hi b) s = cond (int_lt k hi) ((variable x, k) ∷ []) []
step_writes (restore x v) s = (variable x, v) ∷ []
step_writes halt s = []

-- the store and the work that n steps leave
abbrev pub after : ℕ → List Item → Store → Done
after n [] s = record { store = s; work = [] }
after zero (item ∷ work) s = record { store = s; work = item ∷ work }
after (suc n) (item ∷ work) s = after n ((step item s work).work) ((step item s work).store)

-- the cells that n steps read, and what they write
abbrev pub reads : ℕ → List Item → Store → List Cell
reads n [] s = []
reads zero (item ∷ work) s = []
reads (suc n) (item ∷ work) s = step_reads item s ++ reads n ((step item s work).work) ((step item s work).store)

abbrev pub writes : ℕ → List Item → Store → List Write
writes n [] s = []
writes zero (item ∷ work) s = []
writes (suc n) (item ∷ work) s = step_writes item s ++ writes n ((step item s work).work) ((step item s work).store)

-- a store with writes done one after another
abbrev pub written : Store → List Write → Store
written s [] = s
written s (w ∷ ws) = written (write s w.0 w.1) ws

-- how a run has come out that leaves this work and this store
abbrev pub outcome : List Item → Store → Option Outcome
outcome [] s = Some (ended s)
outcome (halt ∷ work) s = Some (halted s)
outcome (act a ∷ work) s = None
outcome (turns x k hi b ∷ work) s = None
outcome (restore x v ∷ work) s = None
