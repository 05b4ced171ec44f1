-- What is left of the marks is listed once exactly where all are.
use Rattle.std.proofs.Common.{◌≡◌, drop}
use Rattle.open_checker.specs.Once.{stores_once}
use Rattle.open_checker.proofs.once.stores_once.Given as goal

abbrev pub invariant-loop-i : goal.invariant-loop-i
invariant-loop-i l = stores_once (drop l.i l.marks) ≡ stores_once l.marks
