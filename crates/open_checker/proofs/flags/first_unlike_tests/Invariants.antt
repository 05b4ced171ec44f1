-- All that was looked at passes.
use Rattle.std.proofs.Common.{◌≡◌, take, true}
use Rattle.std.specs.List.{list_all}
use Rattle.open_checker.specs.Points.{holds_as_its_class}
use Rattle.open_checker.proofs.flags.first_unlike_tests.Given as goal

abbrev pub invariant-loop-k : goal.invariant-loop-k
invariant-loop-k l = list_all (holds_as_its_class l.stores l.tests) (take l.k l.tests) ≡ true
