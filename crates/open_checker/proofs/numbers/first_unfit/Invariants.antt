-- All that was looked at passes.
use Rattle.std.proofs.Common.{◌≡◌, take, true}
use Rattle.std.specs.List.{list_all}
use Rattle.open_checker.specs.Points.{number_fits}
use Rattle.open_checker.proofs.numbers.first_unfit.Given as goal

abbrev pub invariant-loop-k : goal.invariant-loop-k
invariant-loop-k l = list_all (number_fits l.marks) (take l.k l.marks) ≡ true
