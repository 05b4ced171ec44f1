-- What is left of the marks has the same first mark of the term as all of them.
use Rattle.std.proofs.Common.{◌≡◌, drop}
use Rattle.escape_marks.specs.Marks.{store_mark}
use Rattle.escape_universe.specs.Shapes.{shape_term}
use Rattle.escape_universe.proofs.shape.has_shape.Given as goal

abbrev pub invariant-loop-m : goal.invariant-loop-m
invariant-loop-m l = store_mark (drop l.m-index l.marks) (shape_term l.x) ≡ store_mark l.marks (shape_term l.x)
