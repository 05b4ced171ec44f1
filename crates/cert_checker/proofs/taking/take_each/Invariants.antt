use Rattle.std.proofs.Common.{◌≡◌, drop}
use Rattle.cert_checker.specs.Taking.{pair_of, along, taken_numbered}
use Rattle.cert_checker.proofs.taking.take_each.Given as goal

abbrev pub invariant-loop-c : goal.invariant-loop-c
invariant-loop-c l = along (taken_numbered (pair_of l.here)) l.c (drop l.c l.goals) l.next ≡ along (taken_numbered (pair_of l.here)) 0 l.goals l.at
