-- What is left of the marks is listed once exactly where all are.
use Rattle.std.proofs.Common.{◌≡◌, drop}
use Rattle.open_checker.specs.Once.{values_once}
use Rattle.open_checker.proofs.once.values_once.Given as goal

abbrev pub invariant-loop-i : goal.invariant-loop-i
invariant-loop-i l = values_once (drop l.i l.marks) ≡ values_once l.marks
