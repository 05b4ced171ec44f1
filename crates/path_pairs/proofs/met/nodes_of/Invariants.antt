use Rattle.std.proofs.Common.{◌≡◌, ◌≤◌, ◌+◌, ◌-◌, ◌^◌, drop}
use Rattle.rule_terms.specs.Counts.{saturated, literals_nodes}
use Rattle.path_pairs.proofs.met.nodes_of.Given as goal

abbrev pub invariant-loop-l : goal.invariant-loop-l
invariant-loop-l l = record {
  small : l.all ≤ 2 ^ 64 - 1;
  rest : saturated (l.all + literals_nodes (drop l.l-index l.literals)) ≡ saturated (literals_nodes l.literals);
}
