use Rattle.std.proofs.Common.{◌≡◌, ◌≢◌, Some, pos, length}
use Rattle.std.specs.BTreeMap as tree
use Rattle.toy_run.specs.Place.{place_cmp}
use Rattle.toy_run.specs.Stored.{store_by}
use Rattle.toy_run.specs.declared.place.Place.{Place}
use Rattle.toy_run.proofs.scattered.Scattered.into_cells.Given as goal

abbrev pub invariant-loop-name : goal.invariant-loop-name
invariant-loop-name l = (store_by l.variables.entries l.cells.entries ≡ store_by l.fn.self.variables.entries l.fn.self.cells.entries) × ((p : Place) → tree.get place_cmp l.cells p ≢ Some (pos 0))

abbrev pub decreases-loop-name : goal.decreases-loop-name
decreases-loop-name l = length l.variables.entries
