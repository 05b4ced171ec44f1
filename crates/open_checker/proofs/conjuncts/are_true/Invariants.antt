-- What is left of the literals is true exactly where all are.
use Rattle.std.proofs.Common.{◌≡◌, drop}
use Rattle.std.specs.List.{list_all}
use Rattle.escape_marks.specs.Marks.{literal_true}
use Rattle.open_checker.proofs.conjuncts.are_true.Given as goal

abbrev pub invariant-loop-x : goal.invariant-loop-x
invariant-loop-x l = list_all (literal_true l.params l.e) (drop l.x-index l.xs) ≡ list_all (literal_true l.params l.e) l.xs
