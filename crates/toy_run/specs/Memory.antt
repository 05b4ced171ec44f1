-- The store that a memory holds: the one that its maps make, and the cells of its list written into that.
-- What has no entry holds 0.
use Rattle.toy_imp.specs.Store.{Store}
use Rattle.toy_run.specs.declared.memory.Memory.{Memory}
use Rattle.toy_run.specs.Stored.{with_cells, store_by}

abbrev pub store_in : Memory → Store
store_in m = with_cells m.ascending (store_by m.rest.variables.entries m.rest.cells.entries)
