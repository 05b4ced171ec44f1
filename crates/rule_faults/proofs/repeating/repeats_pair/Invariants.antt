use Rattle.std.proofs.Common.{◌≡◌, drop}
use Rattle.toy_imp.specs.Faults.{repeats_pair}
use Rattle.rule_faults.proofs.Again.{pairs_again}
use Rattle.rule_faults.proofs.repeating.repeats_pair.Given as goal

abbrev pub invariant-loop-pair : goal.invariant-loop-pair
invariant-loop-pair l = pairs_again l.seen.keys (drop l.pair-index l.pairs) ≡ repeats_pair l.pairs
