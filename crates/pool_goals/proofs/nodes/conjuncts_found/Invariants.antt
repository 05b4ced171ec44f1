use Rattle.std.proofs.Common.{◌≡◌, ◌+◌, ◌<◌, ◌^◌, drop}
use Rattle.rule_terms.specs.Counts.{saturated}
use Rattle.term_pool.specs.Numbered.{terms_of_nodes}
use Rattle.pool_goals.specs.Nodes.{conjuncts_found}
use Rattle.pool_goals.proofs.nodes.conjuncts_found.Given as goal

abbrev pub invariant-loop-c : goal.invariant-loop-c
invariant-loop-c l = record {
  few : l.all < 2 ^ 64;
  nodes : saturated (l.all + conjuncts_found (terms_of_nodes l.pool) (drop l.c-index l.items)) ≡ saturated (conjuncts_found (terms_of_nodes l.pool) l.items);
}
