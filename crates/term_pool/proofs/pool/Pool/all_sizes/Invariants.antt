use Rattle.std.proofs.Common.{◌≡◌, ◌+◌, ◌<◌, ◌^◌, max, drop}
use Rattle.rule_terms.specs.Counts.{saturated}
use Rattle.term_pool.specs.Numbered.{terms_of_nodes}
use Rattle.term_pool.specs.Kept.{numbers_nodes, numbers_depth}
use Rattle.term_pool.proofs.pool.Pool.all_sizes.Given as goal

abbrev pub invariant-loop-n : goal.invariant-loop-n
invariant-loop-n l = record {
  few : l.all.nodes < 2 ^ 64;
  low : l.all.depth < 2 ^ 64;
  nodes : saturated (l.all.nodes + numbers_nodes (terms_of_nodes l.self) (drop l.n-index l.numbers)) ≡ saturated (numbers_nodes (terms_of_nodes l.self) l.numbers);
  depth : saturated (max l.all.depth (numbers_depth (terms_of_nodes l.self) (drop l.n-index l.numbers))) ≡ saturated (numbers_depth (terms_of_nodes l.self) l.numbers);
}
