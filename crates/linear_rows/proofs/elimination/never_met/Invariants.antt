use Rattle.std.proofs.Common.{◌≡◌, drop}
use Rattle.std.specs.List.{list_any}
use Rattle.linear_rows.specs.Stage.{is_never_met}
use Rattle.linear_rows.specs.Lines.{items_of}
use Rattle.linear_rows.proofs.elimination.never_met.Given as goal

abbrev pub invariant-loop-i : goal.invariant-loop-i
invariant-loop-i l = list_any is_never_met (items_of l.lines) ≡ list_any is_never_met (items_of (drop l.i l.lines))
