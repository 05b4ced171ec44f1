use Rattle.std.proofs.Common.{ℕ, ◌<◌, get_or}
use Rattle.toy_run.specs.declared.cell.Cell.{Cell}
use Rattle.toy_run.specs.Cells.{is_not_zero}
use Rattle.toy_run.proofs.ascending.no_zero.Given as goal

abbrev pub invariant-loop-cell : goal.invariant-loop-cell
invariant-loop-cell l = (j : ℕ) (d : Cell) → j < l.cell-index → is_not_zero (get_or l.cells j d)
