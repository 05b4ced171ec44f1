-- What is left of the marks agrees exactly where all do.
use Rattle.std.proofs.Common.{◌≡◌, drop}
use Rattle.std.specs.List.{list_all}
use Rattle.open_checker.specs.Points.{holds_alike}
use Rattle.open_checker.proofs.flags.holds_as_its_class.Given as goal

abbrev pub invariant-loop-n : goal.invariant-loop-n
invariant-loop-n l = list_all (holds_alike l.stores l.m) (drop l.n-index l.tests) ≡ list_all (holds_alike l.stores l.m) l.tests
