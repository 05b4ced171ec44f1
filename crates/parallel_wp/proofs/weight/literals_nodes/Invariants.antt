use Rattle.std.proofs.Common.{◌≡◌, ◌+◌, ◌<◌, ◌^◌, drop}
use Rattle.rule_terms.specs.Counts.{saturated, literals_nodes}
use Rattle.parallel_wp.proofs.weight.literals_nodes.Given as goal

abbrev pub invariant-loop-literal : goal.invariant-loop-literal
invariant-loop-literal c = record {
  few : c.all < 2 ^ 64;
  nodes : saturated (c.all + literals_nodes (drop c.literal-index c.literals)) ≡ saturated (literals_nodes c.literals);
}
