use Rattle.std.proofs.Common.{◌≡◌, drop}
use Rattle.entry_pairs.specs.PointKinds.{meetings}
use Rattle.entry_pairs.specs.CutAnswers.{entered_or_mark}
use Rattle.entry_pairs.proofs.entries.enter_all.Given as goal

abbrev pub invariant-loop-l : goal.invariant-loop-l
invariant-loop-l l =
    entered_or_mark l.i l.entries (meetings l.table (drop l.l-index l.lefts) l.rights)
    ≡ entered_or_mark l.i l.fn.entries (meetings l.table l.lefts l.rights)
