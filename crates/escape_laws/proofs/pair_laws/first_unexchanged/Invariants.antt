-- All that was looked at passes.
use Rattle.std.proofs.Common.{◌≡◌, take, true}
use Rattle.std.specs.List.{list_all}
use Rattle.escape_laws.specs.PairLaws.{exchanges_with_all}
use Rattle.escape_laws.proofs.pair_laws.first_unexchanged.Given as goal

abbrev pub invariant-loop-k : goal.invariant-loop-k
invariant-loop-k l = list_all (exchanges_with_all l.params l.e) (take l.k l.marks) ≡ true
