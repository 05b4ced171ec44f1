-- What is left of the marks has the same first mark of the term as all of them.
use Rattle.std.proofs.Common.{◌≡◌, drop}
use Rattle.escape_marks.specs.Marks.{test_mark}
use Rattle.escape_marks.proofs.marks.test_mark.Given as goal

abbrev pub invariant-loop-m : goal.invariant-loop-m
invariant-loop-m l = test_mark (drop l.m-index l.marks) l.k l.s ≡ test_mark l.marks l.k l.s
