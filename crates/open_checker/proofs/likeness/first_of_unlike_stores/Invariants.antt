-- All that was looked at passes.
use Rattle.std.proofs.Common.{◌≡◌, take, true}
use Rattle.std.specs.List.{list_all}
use Rattle.open_checker.specs.Likeness.{store_agrees}
use Rattle.open_checker.proofs.likeness.first_of_unlike_stores.Given as goal

abbrev pub invariant-loop-k : goal.invariant-loop-k
invariant-loop-k l = list_all (store_agrees l.params l.e) (take l.k l.marks) ≡ true
