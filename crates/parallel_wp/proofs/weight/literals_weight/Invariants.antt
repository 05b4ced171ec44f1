use Rattle.std.proofs.Common.{◌≡◌, ◌+◌, ◌<◌, ◌^◌, drop}
use Rattle.rule_terms.specs.Counts.{saturated}
use Rattle.parallel_wp.specs.Weight.{literals_weight}
use Rattle.parallel_wp.proofs.weight.literals_weight.Given as goal

abbrev pub invariant-loop-literal : goal.invariant-loop-literal
invariant-loop-literal c = record {
  few : c.all < 2 ^ 64;
  nodes : saturated (c.all + literals_weight c.a c.b (drop c.literal-index c.literals)) ≡ saturated (literals_weight c.a c.b c.literals);
}
