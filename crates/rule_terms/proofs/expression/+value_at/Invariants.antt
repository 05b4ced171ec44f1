use Rattle.std.proofs.Common.{◌≡◌, ◌+◌, ◌*◌, true, map, take, drop}
use Rattle.toy_imp.specs.Expr.{depth, depths}
use Rattle.toy_imp.specs.ExprView.{exprs_of}
use Rattle.rule_terms.specs.ValueAt.{all_names_are_open, value_at}
use Rattle.rule_terms.proofs.expression.+value_at.Given as goal

abbrev pub decreases-value_at : goal.decreases-value_at
decreases-value_at l = 2 * depth l.e.now

abbrev pub decreases-values_at : goal.decreases-values_at
decreases-values_at l = 2 * depths (exprs_of l.items.now) + 1

abbrev pub invariant-values_at-loop-e : goal.invariant-values_at-loop-e
invariant-values_at-loop-e l = record {
  are_open : all_names_are_open (exprs_of (drop l.e-index l.items)) ≡ true;
  before : l.all ≡ map (λ e. value_at e l.s) (take l.e-index l.items);
}
