use Rattle.std.proofs.Common.{◌≡◌, ◌+◌, ◌<◌, ◌^◌, drop}
use Rattle.rule_terms.specs.Counts.{saturated}
use Rattle.term_pool.specs.Numbered.{terms_of_nodes}
use Rattle.pool_goals.specs.Nodes.{literals_found}
use Rattle.pool_goals.proofs.nodes.literals_found.Given as goal

abbrev pub invariant-loop-x : goal.invariant-loop-x
invariant-loop-x l = record {
  few : l.all < 2 ^ 64;
  nodes : saturated (l.all + literals_found (terms_of_nodes l.pool) (drop l.x-index l.items)) ≡ saturated (literals_found (terms_of_nodes l.pool) l.items);
}
