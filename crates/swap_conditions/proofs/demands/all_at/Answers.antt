use Rattle.std.proofs.Common.{arith}
use Rattle.std.proofs.lemmas.Int.{ints}
use Rattle.swap_conditions.proofs.Bounds.{told_at}
use Rattle.swap_conditions.proofs.demands.all_at.Goals as goal

pub returns : goal.returns
returns c = told_at c.args.a c.args.c _ c.args.b.now c.block_span.result c.is_at.result (omega (arith, ints)) c.is_at.ensures c.block_span.ensures
