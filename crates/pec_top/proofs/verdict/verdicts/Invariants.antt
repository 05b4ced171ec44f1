use Rattle.std.proofs.Common.{◌≡◌, ◌++◌, drop}
use Rattle.pec_top.specs.Verdict.{verdicts}
use Rattle.pec_top.proofs.verdict.verdicts.Given as goal

-- the verdicts so far, and those on the items that are left, are all
abbrev pub invariant-loop-item : goal.invariant-loop-item
invariant-loop-item l = l.all ++ verdicts (drop l.item-index l.items) ≡ verdicts l.items
