use Rattle.std.proofs.Common.{◌≡◌, take}
use Rattle.toy_imp.specs.Store.{read}
use Rattle.term_run.specs.Cells.{store_by}
use Rattle.term_run.proofs.cells.read.Given as goal

abbrev pub invariant-loop-cell : goal.invariant-loop-cell
invariant-loop-cell l = l.value ≡ read (store_by (take l.cell-index l.cells)) (l.name, l.indices)
