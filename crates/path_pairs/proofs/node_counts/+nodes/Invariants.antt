use Rattle.std.proofs.Common.{◌≡◌, ◌≤◌, ◌+◌, ◌*◌, ◌-◌, ◌^◌, drop}
use Rattle.toy_imp.specs.Expr.{depth, depths}
use Rattle.toy_imp.specs.ExprView.{exprs_of}
use Rattle.rule_terms.specs.Counts.{saturated}
use Rattle.path_pairs.specs.NodeCounts.{exprs_nodes}
use Rattle.path_pairs.proofs.node_counts.+nodes.Given as goal

abbrev pub decreases-expr_nodes : goal.decreases-expr_nodes
decreases-expr_nodes l = 2 * depth l.e.now

abbrev pub decreases-exprs_nodes : goal.decreases-exprs_nodes
decreases-exprs_nodes l = 2 * depths (exprs_of l.items.now) + 1

abbrev pub invariant-exprs_nodes-loop-e : goal.invariant-exprs_nodes-loop-e
invariant-exprs_nodes-loop-e l = record {
  small : l.all ≤ 2 ^ 64 - 1;
  rest : saturated (l.all + exprs_nodes (exprs_of (drop l.e-index l.items)) l.n) ≡ saturated (exprs_nodes (exprs_of l.items) l.n);
}
