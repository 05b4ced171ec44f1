-- Work comes to other work: some number of steps of the run leads from one list of work in a store to another in another store.
-- Each step is one of the run, and none is made where no work is left or the run has halted.
use Rattle.std.specs.Prelude.{◌≡◌, ℕ, zero, suc, List, [], ◌∷◌, Option, Some, None}
use Rattle.toy_imp.specs.Store.{Store}
use Rattle.toy_imp.specs.Run.{Item, halt, Done, step}

-- the store and the work after so many steps; nothing where no work is left before, or the run has halted
unfoldable pub steps_on : ℕ → List Item → Store → Option Done
steps_on zero work s = Some (record { store = s; work = work })
steps_on (suc n) [] s = None
steps_on (suc n) (halt ∷ work) s = None
steps_on (suc n) (item ∷ work) s = steps_on n ((step item s work).work) ((step item s work).store)

pub record Comes (first : List Item) (s : Store) (second : List Item) (m : Store) : Type 0 where
  pub steps : ℕ
  pub there : steps_on steps first s ≡ Some (record { store = m; work = second })
