-- What a run of a block from the empty store, for at most some number of steps, comes to.
-- It ends, or halts, or uses up its steps, or comes to a step that is not narrow; these exclude each other.
use Rattle.std.specs.Prelude.{◌≡◌, ℕ, ◌≤◌, List, [], None}
use Rattle.toy_imp.specs.Store.{Store}
use Rattle.toy_imp.specs.Run.{Item, before, Outcome, ended, halted, run}
use Rattle.toy_imp.specs.Block.{Block}
use Rattle.toy_run.specs.declared.ran.Ran.{Ran}
use Rattle.toy_run.specs.declared.ran.Ran.TheVariants.{Ended, Halted, Spent, Wide}
use Rattle.toy_run.specs.declared.cell.Cell.{Cell}
use Rattle.toy_run.specs.Cells.{AreCells}
use Rattle.toy_run.specs.Stored.{empty_store}
use Rattle.toy_run.specs.Steps.{NarrowUpTo, WideAt, ComesOutAt}

-- the work comes out in this way after n narrow steps, and leaves a store that has these cells
pub record Leaves (out : Store → Outcome) (cells : List Cell) (n : ℕ) (work : List Item) (s : Store) : Type 0 where
  pub store : Store
  pub comes_out : ComesOutAt n work s (out store)
  pub narrow : NarrowUpTo n work s
  pub listed : AreCells store cells

abbrev pub Comes : List Item → Store → ℕ → Ran → Type 0
Comes work s steps (Ended cells n) = (n ≤ steps) × Leaves ended cells n work s
Comes work s steps (Halted cells n) = (n ≤ steps) × Leaves halted cells n work s
Comes work s steps Spent = (run steps work s ≡ None) × NarrowUpTo steps work s
Comes work s steps (Wide k) = (k ≤ steps) × WideAt k work s

abbrev pub ComesTo : Block → ℕ → Ran → Type 0
ComesTo block steps r = Comes (before block []) empty_store steps r
