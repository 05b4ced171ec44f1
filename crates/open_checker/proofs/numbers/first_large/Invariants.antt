-- All that was looked at passes.
use Rattle.std.proofs.Common.{◌≡◌, take, true}
use Rattle.std.specs.List.{list_all}
use Rattle.open_checker.specs.Points.{is_small}
use Rattle.open_checker.proofs.numbers.first_large.Given as goal

abbrev pub invariant-loop-k : goal.invariant-loop-k
invariant-loop-k l = list_all is_small (take l.k l.marks) ≡ true
