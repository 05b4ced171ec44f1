-- The distances so far in front of those at the parts that are left are those at all of them.
use Rattle.std.proofs.Common.{◌≡◌, [], drop}
use Rattle.std.specs.Prelude.{reverse, Some}
use Rattle.refutations.specs.Placed.{with_waiting, placed}
use Rattle.refutations.proofs.Placing.{behind}
use Rattle.refutations.proofs.placed.distances_of.Given as goal

abbrev pub invariant-loop-i : goal.invariant-loop-i
invariant-loop-i l = behind l.back (placed l.i (with_waiting l.next (reverse l.waiting)) (drop l.i l.parts)) ≡ placed 0 (Some (0, [])) l.parts
