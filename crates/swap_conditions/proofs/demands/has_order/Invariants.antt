use Rattle.std.proofs.Common.{◌≡◌, false}
use Rattle.toy_imp.specs.Cell.{spelled}
use Rattle.toy_imp.specs.ExprView.{exprs_of}
use Rattle.swap_conditions.specs.SwapText.{some_below, order_at}
use Rattle.swap_conditions.proofs.demands.has_order.Given as goal

abbrev pub invariant-loop-p : goal.invariant-loop-p
invariant-loop-p l = some_below l.p (order_at l.k (spelled l.x) (exprs_of l.indices) l.q.first.now l.q.second.now) ≡ false
