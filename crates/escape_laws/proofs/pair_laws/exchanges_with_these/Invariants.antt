-- What is left of the marks passes exactly where all do.
use Rattle.std.proofs.Common.{◌≡◌, drop}
use Rattle.std.specs.List.{list_all}
use Rattle.escape_laws.specs.PairLaws.{exchange_kept}
use Rattle.escape_laws.proofs.pair_laws.exchanges_with_these.Given as goal

abbrev pub invariant-loop-n : goal.invariant-loop-n
invariant-loop-n l = list_all (exchange_kept l.params l.e l.v) (drop l.n-index l.marks) ≡ list_all (exchange_kept l.params l.e l.v) l.marks
