use Rattle.std.proofs.Common.{arith}
use Rattle.param_meaning.proofs.Lists.{all_filled}
use Rattle.param_meaning.proofs.expr.+fill_expr.Goals as goal

pub fill_exprs-returns : goal.fill_exprs-returns
fill_exprs-returns t c = all_filled c.args.by.now c.args.es.now c.loop-e.all c.loop-e.e-index (omega arith) c.loop-e.invariant
