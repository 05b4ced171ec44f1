-- All that was looked at passes.
use Rattle.std.proofs.Common.{◌≡◌, take, true}
use Rattle.std.specs.List.{list_all}
use Rattle.escape_marks.specs.Marks.{literal_true}
use Rattle.open_checker.proofs.conjuncts.first_false.Given as goal

abbrev pub invariant-loop-k : goal.invariant-loop-k
invariant-loop-k l = list_all (literal_true l.params l.e) (take l.k l.xs) ≡ true
