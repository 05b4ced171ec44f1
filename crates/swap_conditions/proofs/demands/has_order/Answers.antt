use Rattle.std.proofs.Common.{sym, ◌∙◌, arith}
use Rattle.toy_imp.specs.Cell.{spelled}
use Rattle.toy_imp.specs.ExprView.{exprs_of}
use Rattle.swap_conditions.specs.SwapText.{order_at}
use Rattle.swap_conditions.proofs.Positions.{none_more, at_position, at_none}
use Rattle.swap_conditions.proofs.demands.has_order.Goals as goal

pub returns-then-is_ordered_at : goal.returns-then-is_ordered_at
returns-then-is_ordered_at c =
    at_position c.args.indices.now c.loop-p.p (order_at c.args.k.now (spelled c.args.x.now) (exprs_of c.args.indices.now) c.args.q.first.now c.args.q.second.now) (omega arith)
    (sym c.is_ordered_at.ensures ∙ c.if-is_ordered_at.true)

pub loop-p-preserved : goal.loop-p-preserved
loop-p-preserved c =
    none_more c.loop-p.p (order_at c.args.k.now (spelled c.args.x.now) (exprs_of c.args.indices.now) c.args.q.first.now c.args.q.second.now)
    (sym c.is_ordered_at.ensures ∙ c.if-is_ordered_at.false) c.loop-p.invariant

pub returns : goal.returns
returns c =
    at_none c.args.indices.now c.loop-p.p (order_at c.args.k.now (spelled c.args.x.now) (exprs_of c.args.indices.now) c.args.q.first.now c.args.q.second.now) (omega arith) c.loop-p.invariant
