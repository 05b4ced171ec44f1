-- The store and the work after a number of steps, and whether the next step is narrow.
-- Work comes out after n steps where n is the least number of steps by which a run gives an outcome.
use Rattle.std.specs.Prelude.{◌≡◌, ℕ, zero, suc, ◌<◌, List, [], ◌∷◌, Some, None}
use Rattle.toy_imp.specs.Store.{Store}
use Rattle.toy_imp.specs.Run.{Item, halt, Done, step, Outcome, run}
use Rattle.toy_run.specs.Narrow.{NarrowItem}

-- where no work is left or the run has halted, nothing changes any more
unfoldable pub after : ℕ → List Item → Store → Done
after zero work s = record { store = s; work = work }
after (suc n) [] s = record { store = s; work = [] }
after (suc n) (item ∷ work) s = after n ((step item s work).work) ((step item s work).store)

-- some work is left, the run has not halted, and its first item is a narrow step
abbrev pub NarrowNext : List Item → Store → Type 0
NarrowNext [] s = ⊥
NarrowNext (halt ∷ work) s = ⊥
NarrowNext (item ∷ work) s = NarrowItem item s

-- .. is a step that is not narrow
abbrev pub WideNext : List Item → Store → Type 0
WideNext [] s = ⊥
WideNext (halt ∷ work) s = ⊥
WideNext (item ∷ work) s = ¬ (NarrowItem item s)

-- each of the first n steps is done, and narrow
abbrev pub NarrowUpTo : ℕ → List Item → Store → Type 0
NarrowUpTo n work s = (k : ℕ) → k < n → NarrowNext ((after k work s).work) ((after k work s).store)

-- step k, counted from 1, is the first that is not narrow
pub record WideAt (k : ℕ) (work : List Item) (s : Store) : Type 0 where
  pub before : ℕ
  pub counted : k ≡ suc before
  pub narrow : NarrowUpTo before work s
  pub wide : WideNext ((after before work s).work) ((after before work s).store)

-- n is the least number of steps by which the run comes out, and this is the outcome
pub record ComesOutAt (n : ℕ) (work : List Item) (s : Store) (o : Outcome) : Type 0 where
  pub reached : run n work s ≡ Some o
  pub least : (k : ℕ) → k < n → run k work s ≡ None
