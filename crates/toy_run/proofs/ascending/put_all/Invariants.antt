use Rattle.std.proofs.Common.{◌≡◌, ◌≢◌, Some, pos, length}
use Rattle.std.specs.BTreeMap as tree
use Rattle.toy_run.specs.Place.{place_cmp}
use Rattle.toy_run.specs.Stored.{store_of, with_cells}
use Rattle.toy_run.specs.declared.place.Place.{Place}
use Rattle.toy_run.proofs.ascending.put_all.Given as goal

abbrev pub invariant-loop-cell : goal.invariant-loop-cell
invariant-loop-cell l = (with_cells l.left (store_of l.all.entries) ≡ with_cells l.cells (store_of l.fn.all.entries)) × ((p : Place) → tree.get place_cmp l.all p ≢ Some (pos 0))

abbrev pub decreases-loop-cell : goal.decreases-loop-cell
decreases-loop-cell l = length l.left
