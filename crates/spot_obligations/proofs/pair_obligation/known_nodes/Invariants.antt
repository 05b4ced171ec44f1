use Rattle.std.proofs.Common.{◌≡◌, ◌+◌, ◌<◌, ◌^◌, drop}
use Rattle.rule_terms.specs.Counts.{saturated, conjuncts_nodes}
use Rattle.spot_obligations.proofs.pair_obligation.known_nodes.Given as goal

abbrev pub invariant-loop-c : goal.invariant-loop-c
invariant-loop-c l = record {
  few : l.all < 2 ^ 64;
  nodes : saturated (l.all + conjuncts_nodes (drop l.c-index l.known)) ≡ saturated (conjuncts_nodes l.known);
}
