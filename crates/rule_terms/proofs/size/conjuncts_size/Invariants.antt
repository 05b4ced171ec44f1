use Rattle.std.proofs.Common.{◌≡◌, ◌+◌, ◌<◌, ◌^◌, max, drop}
use Rattle.rule_terms.specs.Counts.{saturated, conjuncts_nodes, conjuncts_depth}
use Rattle.rule_terms.proofs.size.conjuncts_size.Given as goal

abbrev pub invariant-loop-c : goal.invariant-loop-c
invariant-loop-c l = record {
  few : l.all.nodes < 2 ^ 64;
  low : l.all.depth < 2 ^ 64;
  nodes : saturated (l.all.nodes + conjuncts_nodes (drop l.c-index l.items)) ≡ saturated (conjuncts_nodes l.items);
  depth : saturated (max l.all.depth (conjuncts_depth (drop l.c-index l.items))) ≡ saturated (conjuncts_depth l.items);
}
