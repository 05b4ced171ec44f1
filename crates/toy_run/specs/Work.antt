-- The work that the machine's items stand for; what is done next stands at their end.
-- An item is the rest of a block, the turns of a `for` from a number on, a variable to be given a value back, or to halt.
use Rattle.std.specs.Prelude.{◌≡◌, List, [], ◌∷◌, ◌++◌, refl}
use Rattle.toy_imp.specs.Run.{act, turns, restore, halt, before}
use Rattle.toy_imp.specs.Run as runs
use Rattle.toy_imp.specs.BlockView.{block_of}
use Rattle.toy_run.specs.declared.work.Item.{Item}
use Rattle.toy_run.specs.declared.work.Item.TheVariants.{Acts, Turns, Restore, Halt}

-- the work of an item
abbrev pub first_of : Item → runs.Item
first_of (Acts s rest) = act s.now
first_of (Turns x k hi b) = turns x.now k hi b.now
first_of (Restore x v) = restore x.now v
first_of Halt = halt

-- and what follows it: the rest of its block, and then other work
abbrev pub rest_of : Item → List runs.Item → List runs.Item
rest_of (Acts s rest) work = before (block_of rest.now) work
rest_of (Turns x k hi b) work = work
rest_of (Restore x v) work = work
rest_of Halt work = work

-- items in front of other work, the last one first
unfoldable pub onto : List Item → List runs.Item → List runs.Item
onto [] work = work
onto (i ∷ is) work = onto is (first_of i ∷ rest_of i work)

abbrev pub work_of : List Item → List runs.Item
work_of is = onto is []

pub onto_push : (is : List Item) (i : Item) (work : List runs.Item) → onto (is ++ i ∷ []) work ≡ first_of i ∷ rest_of i (onto is work)
unfolding onto
onto_push [] i work = refl
onto_push (j ∷ is) i work = onto_push is i (first_of j ∷ rest_of j work)
