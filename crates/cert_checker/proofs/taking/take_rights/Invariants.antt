use Rattle.std.proofs.Common.{◌≡◌, drop}
use Rattle.cert_checker.specs.Taking.{around_of, along, taken_right, taken_left}
use Rattle.cert_checker.proofs.taking.take_rights.Given as goal

abbrev pub invariant-loop-b : goal.invariant-loop-b
invariant-loop-b l =
    along (taken_right (around_of l.around) l.left_number l.left) l.b (drop l.b l.rights) l.next
    ≡ taken_left (around_of l.around) l.rights l.left_number l.left l.at
