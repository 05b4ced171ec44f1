-- What is left of the marks is listed once exactly where all are.
use Rattle.std.proofs.Common.{◌≡◌, drop}
use Rattle.open_checker.specs.Once.{tests_once}
use Rattle.open_checker.proofs.once.tests_once.Given as goal

abbrev pub invariant-loop-i : goal.invariant-loop-i
invariant-loop-i l = tests_once (drop l.i l.marks) ≡ tests_once l.marks
