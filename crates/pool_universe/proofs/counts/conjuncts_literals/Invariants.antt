use Rattle.std.proofs.Common.{◌≡◌, ◌+◌, ◌<◌, ◌^◌, drop}
use Rattle.rule_terms.specs.Counts.{saturated}
use Rattle.pool_universe.specs.RootSizes.{conjuncts_literals}
use Rattle.pool_universe.proofs.counts.conjuncts_literals.Given as goal

abbrev pub invariant-loop-c : goal.invariant-loop-c
invariant-loop-c l = record {
  few : l.all < 2 ^ 64;
  literals : saturated (l.all + conjuncts_literals (drop l.c-index l.items)) ≡ saturated (conjuncts_literals l.items);
}
