use Rattle.std.proofs.Common.{◌≡◌}
use Rattle.claim_tests.proofs.threads.work.Given as goal

abbrev pub invariant-loop-turn : goal.invariant-loop-turn
invariant-loop-turn l = l.chair.table ≡ l.table
