use Rattle.std.proofs.Common.{◌≡◌, drop}
use Rattle.std.specs.List.{list_all}
use Rattle.toy_imp.specs.Faults.{is_inside}
use Rattle.toy_imp.proofs.faults.are_inside.Given as goal

abbrev pub invariant-loop-a : goal.invariant-loop-a
invariant-loop-a l = list_all (is_inside l.fn.left l.fn.right) (drop l.a-index l.pairs) ≡ list_all (is_inside l.fn.left l.fn.right) l.pairs
