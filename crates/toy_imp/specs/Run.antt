-- A run does the first item of a list of work, puts in its place what is to be done next, and goes on, for a number of steps.
-- It has one of two outcomes: it ends once no work is left, and it halts at an `assert` that is false, with the store as it
-- stands there. Where the steps are used up before, it gives nothing.
use Rattle.std.specs.Prelude.{ℕ, zero, suc, ℤ, pos, ◌+ℤ◌, cond, List, [], ◌∷◌, Option, Some, None, int_lt}
use Rattle.toy_imp.specs.declared.name.Name.{Name}
use Rattle.toy_imp.specs.Cell.{spelled, variable}
use Rattle.toy_imp.specs.Store.{Store, read, write}
use Rattle.toy_imp.specs.Value.{value, values}
use Rattle.toy_imp.specs.Truth.{truth}
use Rattle.toy_imp.specs.Block.{Stmt, skip, put, assert_that, if_then, while_do, for_to, let_in, par_stmt, Block, empty, stmt}

-- what may be left to do: a statement; the turns of a `for` from a number on; a variable to be given a value back; and to halt,
-- which an `assert` that is false leaves in front of all other work
pub data Item : Type 0 where
  act : Stmt → Item
  turns : Name → ℤ → ℤ → Block → Item
  restore : Name → ℤ → Item
  halt : Item

-- the statements of a block in front of other work
abbrev pub before : Block → List Item → List Item
before empty work = work
before (stmt s b) work = act s ∷ before b work

-- the store and the work after a step
pub record Done : Type 0 where
  pub store : Store
  pub work : List Item

-- an item done in a store, in front of other work; a parameter that stands for no statement is never done, and to halt is the last
unfoldable pub step : Item → Store → List Item → Done
step (act skip) s work = record { store = s; work = work }
step (act (put x is e)) s work = record { store = write s (spelled x, values is s) (value e s); work = work }
step (act (assert_that t)) s work = record { store = s; work = cond (truth t s) work (halt ∷ work) }
step (act (if_then t b c)) s work = record { store = s; work = cond (truth t s) (before b work) (before c work) }
step (act (while_do t b)) s work = record { store = s; work = cond (truth t s) (before b (act (while_do t b) ∷ work)) work }
step (act (for_to x lo hi b)) s work = record { store = s; work = turns x (value lo s) (value hi s) b ∷ restore x (read s (variable x)) ∷ work }
step (act (let_in x e b)) s work = record { store = write s (variable x) (value e s); work = before b (restore x (read s (variable x)) ∷ work) }
step (act (par_stmt k)) s work = record { store = s; work = act (par_stmt k) ∷ work }
step (turns x k hi b) s work = record { store = cond (int_lt k hi) (write s (variable x) k) s; work = cond (int_lt k hi) (before b (turns x (k +ℤ pos 1) hi b ∷ work)) work }
step (restore x v) s work = record { store = write s (variable x) v; work = work }
step halt s work = record { store = s; work = halt ∷ work }

-- how a run comes out, and the store that it leaves
pub data Outcome : Type 0 where
  ended : Store → Outcome
  halted : Store → Outcome

unfoldable pub run : ℕ → List Item → Store → Option Outcome
run n [] s = Some (ended s)
run n (halt ∷ work) s = Some (halted s)
run zero (item ∷ work) s = None
run (suc n) (item ∷ work) s = run n ((step item s work).work) ((step item s work).store)
