-- All that was looked at passes.
use Rattle.std.proofs.Common.{◌≡◌, take, true}
use Rattle.std.specs.List.{list_all}
use Rattle.escape_marks.specs.Marks.{conjunct_true}
use Rattle.open_checker.proofs.conjuncts.first_broken.Given as goal

abbrev pub invariant-loop-k : goal.invariant-loop-k
invariant-loop-k l = list_all (conjunct_true l.params l.e) (take l.k l.cs) ≡ true
