-- What is left of the marks passes exactly where all do.
use Rattle.std.proofs.Common.{◌≡◌, drop}
use Rattle.std.specs.List.{list_all}
use Rattle.escape_marks.specs.declared.escape.ValueMark.{ValueMark}
use Rattle.escape_universe.specs.Covered.{value_there}
use Rattle.escape_universe.proofs.marked.these_values.Given as goal

abbrev pub invariant-loop-m : goal.invariant-loop-m
invariant-loop-m l = list_all (λ (m : ValueMark). value_there l.ob l.e m.value) (drop l.m-index l.marks) ≡ list_all (λ (m : ValueMark). value_there l.ob l.e m.value) l.marks
