-- What is left of the marks passes exactly where all do.
use Rattle.std.proofs.Common.{◌≡◌, drop}
use Rattle.std.specs.List.{list_all}
use Rattle.escape_conditions.specs.MarkedConditions.{constant_as}
use Rattle.escape_conditions.proofs.constant_laws.constant_as_these.Given as goal

abbrev pub invariant-loop-n : goal.invariant-loop-n
invariant-loop-n l = list_all (constant_as l.ob l.e l.i l.a) (drop l.n-index l.marks) ≡ list_all (constant_as l.ob l.e l.i l.a) l.marks
