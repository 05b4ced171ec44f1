use Rattle.std.proofs.Common.{[], take}
use Rattle.pec_top.specs.Checks.{AreChecks}
use Rattle.pec_top.proofs.check.checks.Given as goal

-- the checks of the items so far
abbrev pub invariant-loop-i : goal.invariant-loop-i
invariant-loop-i l = AreChecks [] (take l.i l.items) l.all
