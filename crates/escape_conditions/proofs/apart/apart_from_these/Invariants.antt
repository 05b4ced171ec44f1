-- What is left of the conditions passes exactly where all do.
use Rattle.std.proofs.Common.{◌≡◌, drop}
use Rattle.std.specs.List.{list_all}
use Rattle.escape_conditions.specs.Shapes.{name_apart}
use Rattle.escape_conditions.proofs.apart.apart_from_these.Given as goal

abbrev pub invariant-loop-c : goal.invariant-loop-c
invariant-loop-c l = list_all (name_apart l.ob l.e l.wanted l.k l.n l.rest) (drop l.c-index l.conditions) ≡ list_all (name_apart l.ob l.e l.wanted l.k l.n l.rest) l.conditions
