use Rattle.std.proofs.Common.{◌≡◌, ◌+◌, ◌<◌, ◌^◌, max, drop}
use Rattle.rule_terms.specs.Counts.{saturated, literals_nodes, literals_depth}
use Rattle.rule_terms.proofs.size.literals_size.Given as goal

abbrev pub invariant-loop-l : goal.invariant-loop-l
invariant-loop-l l = record {
  few : l.all.nodes < 2 ^ 64;
  low : l.all.depth < 2 ^ 64;
  nodes : saturated (l.all.nodes + literals_nodes (drop l.l-index l.items)) ≡ saturated (literals_nodes l.items);
  depth : saturated (max l.all.depth (literals_depth (drop l.l-index l.items))) ≡ saturated (literals_depth l.items);
}
