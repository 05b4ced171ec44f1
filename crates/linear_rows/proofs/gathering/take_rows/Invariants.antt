use Rattle.std.proofs.Common.{◌≡◌, All, map, drop}
use Rattle.linear_rows.specs.Stage.{line_of, gathered, IsSmall}
use Rattle.linear_rows.specs.Lines.{lines_of}
use Rattle.linear_rows.specs.Recorded.{RecordsRows}
use Rattle.linear_rows.proofs.gathering.take_rows.Given as goal

abbrev pub invariant-loop-i : goal.invariant-loop-i
invariant-loop-i l = record {
  rest : gathered (lines_of l.fn.stage) (map line_of l.rows) ≡ gathered (lines_of l.stage) (map line_of (drop l.i l.rows));
  small : All IsSmall (lines_of l.stage);
  recorded : RecordsRows l.rows l.fn.history l.fn.stage l.history l.stage;
}
