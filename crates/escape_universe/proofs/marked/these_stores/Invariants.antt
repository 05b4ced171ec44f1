-- What is left of the marks passes exactly where all do.
use Rattle.std.proofs.Common.{◌≡◌, drop}
use Rattle.std.specs.List.{list_all}
use Rattle.escape_marks.specs.declared.escape.StoreMark.{StoreMark}
use Rattle.escape_universe.specs.Covered.{store_there}
use Rattle.escape_universe.proofs.marked.these_stores.Given as goal

abbrev pub invariant-loop-m : goal.invariant-loop-m
invariant-loop-m l = list_all (λ (m : StoreMark). store_there l.ob l.e m.store) (drop l.m-index l.marks) ≡ list_all (λ (m : StoreMark). store_there l.ob l.e m.store) l.marks
