use Rattle.std.proofs.Common.{◌≡◌, drop}
use Rattle.entry_pairs.specs.PointKinds.{right_meetings}
use Rattle.entry_pairs.specs.CutAnswers.{entered_or_mark}
use Rattle.entry_pairs.proofs.entries.enter_rights.Given as goal

abbrev pub invariant-loop-r : goal.invariant-loop-r
invariant-loop-r l =
    entered_or_mark l.i l.entries (right_meetings l.table l.left (drop l.r-index l.rights))
    ≡ entered_or_mark l.i l.fn.entries (right_meetings l.table l.left l.rights)
