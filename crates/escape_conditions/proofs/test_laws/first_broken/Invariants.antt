-- All that was looked at passes.
use Rattle.std.proofs.Common.{◌≡◌, take, true}
use Rattle.std.specs.List.{list_all}
use Rattle.escape_conditions.specs.MarkedConditions.{test_kept}
use Rattle.escape_conditions.proofs.test_laws.first_broken.Given as goal

abbrev pub invariant-loop-k : goal.invariant-loop-k
invariant-loop-k l = list_all (test_kept l.ob l.e) (take l.k l.marks) ≡ true
