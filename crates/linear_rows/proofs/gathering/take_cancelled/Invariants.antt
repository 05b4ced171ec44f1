use Rattle.std.proofs.Common.{◌≡◌, All, drop}
use Rattle.linear_rows.specs.Stage.{sums_with, gathered, IsSmall}
use Rattle.linear_rows.specs.Lines.{items_of, lines_of}
use Rattle.linear_rows.specs.Recorded.{RecordsAll}
use Rattle.linear_rows.proofs.gathering.take_cancelled.Given as goal

abbrev pub invariant-loop-i : goal.invariant-loop-i
invariant-loop-i l = record {
  rest : gathered (lines_of l.fn.next) (sums_with (items_of l.lines) (items_of l.lines)) ≡ gathered (lines_of l.next) (sums_with (items_of l.lines) (items_of (drop l.i l.lines)));
  small : All IsSmall (lines_of l.next);
  recorded : RecordsAll l.numbers (items_of l.lines) l.fn.history l.fn.next l.history l.next;
}
