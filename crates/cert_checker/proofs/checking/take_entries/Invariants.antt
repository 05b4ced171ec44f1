use Rattle.std.proofs.Common.{◌≡◌, drop}
use Rattle.cert_checker.specs.Taking.{along, taken_entry, taken_entries}
use Rattle.cert_checker.proofs.checking.take_entries.Given as goal

abbrev pub invariant-loop-k : goal.invariant-loop-k
invariant-loop-k l =
    along (taken_entry l.rule l.points l.entries l.proofs) l.k (drop l.k l.entries) l.next
    ≡ taken_entries l.rule l.points l.entries l.proofs
