use Rattle.std.proofs.Common.{◌≡◌, take}
use Rattle.term_run.proofs.cells.copy_cells.Given as goal

abbrev pub invariant-loop-cell : goal.invariant-loop-cell
invariant-loop-cell l = l.all ≡ take l.cell-index l.cells
