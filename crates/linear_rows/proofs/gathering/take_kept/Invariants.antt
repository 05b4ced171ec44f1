use Rattle.std.proofs.Common.{◌≡◌, All, drop}
use Rattle.linear_rows.specs.Stage.{without_first, gathered, IsSmall}
use Rattle.linear_rows.specs.Lines.{items_of, lines_of}
use Rattle.linear_rows.proofs.Gathered.{selected, is_kept}
use Rattle.linear_rows.specs.Recorded.{RecordsAll}
use Rattle.linear_rows.proofs.gathering.take_kept.Given as goal

abbrev pub invariant-loop-i : goal.invariant-loop-i
invariant-loop-i l = record {
  rest : gathered (lines_of l.fn.next) (selected without_first is_kept l.lines) ≡ gathered (lines_of l.next) (selected without_first is_kept (drop l.i l.lines));
  small : All IsSmall (lines_of l.next);
  recorded : RecordsAll l.numbers (items_of l.lines) l.fn.history l.fn.next l.history l.next;
}
