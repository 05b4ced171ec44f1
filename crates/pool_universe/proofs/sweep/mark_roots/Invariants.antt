use Rattle.std.proofs.Common.{◌≡◌, drop}
use Rattle.std.specs.List.{flat_map}
use Rattle.rule_terms.specs.Added.{added_all}
use Rattle.pool_universe.specs.PooledParts.{marked_all, part_same}
use Rattle.pool_universe.specs.Roots.{root_numbers, root_tests}
use Rattle.pool_universe.proofs.sweep.mark_roots.Given as goal

abbrev pub invariant-loop-root : goal.invariant-loop-root
invariant-loop-root l = record {
  marks : marked_all l.marks (flat_map root_numbers (drop l.root-index l.roots)) ≡ marked_all l.fn.marks (flat_map root_numbers l.roots);
  parts : added_all part_same l.parts.keys (flat_map root_tests (drop l.root-index l.roots)) ≡ added_all part_same l.fn.parts.keys (flat_map root_tests l.roots);
}
