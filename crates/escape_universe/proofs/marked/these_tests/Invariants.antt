-- What is left of the marks passes exactly where all do.
use Rattle.std.proofs.Common.{◌≡◌, drop}
use Rattle.std.specs.List.{list_all}
use Rattle.escape_marks.specs.declared.escape.TestMark.{TestMark}
use Rattle.escape_universe.specs.Covered.{test_there}
use Rattle.escape_universe.proofs.marked.these_tests.Given as goal

abbrev pub invariant-loop-m : goal.invariant-loop-m
invariant-loop-m l = list_all (λ (m : TestMark). test_there l.ob l.e m.test m.store) (drop l.m-index l.marks) ≡ list_all (λ (m : TestMark). test_there l.ob l.e m.test m.store) l.marks
