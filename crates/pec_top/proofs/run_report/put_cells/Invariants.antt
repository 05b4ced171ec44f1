use Rattle.std.proofs.Common.{◌≡◌, ◌++◌, drop}
use Rattle.pec_top.specs.RunReport.{cell_lines}
use Rattle.pec_top.proofs.run_report.put_cells.Given as goal

abbrev pub invariant-loop-cell : goal.invariant-loop-cell
invariant-loop-cell l = l.out.items ++ cell_lines (drop l.cell-index l.cells) ≡ l.fn.out.items ++ cell_lines l.cells
