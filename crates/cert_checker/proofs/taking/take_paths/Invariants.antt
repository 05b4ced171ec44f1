use Rattle.std.proofs.Common.{◌≡◌, drop}
use Rattle.cert_checker.specs.Taking.{around_of, along, taken_left, taken_paths}
use Rattle.cert_checker.proofs.taking.take_paths.Given as goal

abbrev pub invariant-loop-a : goal.invariant-loop-a
invariant-loop-a l =
    along (taken_left (around_of l.around) l.rights) l.a (drop l.a l.lefts) l.next
    ≡ taken_paths (around_of l.around) l.lefts l.rights l.at
