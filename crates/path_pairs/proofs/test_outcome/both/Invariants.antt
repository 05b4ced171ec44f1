use Rattle.std.proofs.Common.{◌≡◌, ◌++◌, drop}
use Rattle.path_pairs.specs.Outcomes.{both}
use Rattle.path_pairs.proofs.test_outcome.both.Given as goal

abbrev pub invariant-loop-first : goal.invariant-loop-first
invariant-loop-first l = l.all ++ both (drop l.first-index l.firsts) l.seconds ≡ both l.firsts l.seconds
