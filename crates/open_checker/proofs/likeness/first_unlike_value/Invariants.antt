-- All that was looked at passes.
use Rattle.std.proofs.Common.{◌≡◌, take, true}
use Rattle.std.specs.List.{list_all}
use Rattle.open_checker.specs.Likeness.{value_agrees_with}
use Rattle.open_checker.proofs.likeness.first_unlike_value.Given as goal

abbrev pub invariant-loop-k : goal.invariant-loop-k
invariant-loop-k l = list_all (value_agrees_with l.params l.e l.m) (take l.k l.marks) ≡ true
