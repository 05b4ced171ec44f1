-- What is left of the marks agrees exactly where all do.
use Rattle.std.proofs.Common.{◌≡◌, drop}
use Rattle.std.specs.List.{list_all}
use Rattle.open_checker.specs.Likeness.{store_agrees_with}
use Rattle.open_checker.proofs.likeness.store_agrees_with_all.Given as goal

abbrev pub invariant-loop-n : goal.invariant-loop-n
invariant-loop-n l = list_all (store_agrees_with l.params l.e l.m) (drop l.n-index l.marks) ≡ list_all (store_agrees_with l.params l.e l.m) l.marks
