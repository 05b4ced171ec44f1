use Rattle.std.proofs.Common.{◌≡◌, ◌+◌, ◌<◌, ◌^◌, max, drop}
use Rattle.rule_terms.specs.Counts.{saturated}
use Rattle.term_pool.specs.Numbered.{terms_of_nodes}
use Rattle.pool_universe.specs.RootSizes.{roots_nodes, roots_depth}
use Rattle.pool_universe.proofs.counts.roots_size.Given as goal

abbrev pub invariant-loop-root : goal.invariant-loop-root
invariant-loop-root l = record {
  few : l.all.nodes < 2 ^ 64;
  low : l.all.depth < 2 ^ 64;
  nodes : saturated (l.all.nodes + roots_nodes (terms_of_nodes l.pool) (drop l.root-index l.roots)) ≡ saturated (roots_nodes (terms_of_nodes l.pool) l.roots);
  depth : saturated (max l.all.depth (roots_depth (terms_of_nodes l.pool) (drop l.root-index l.roots))) ≡ saturated (roots_depth (terms_of_nodes l.pool) l.roots);
}
