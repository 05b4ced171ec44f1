use Rattle.std.proofs.Common.{arith}
use Rattle.parallel_wp.proofs.Replacing.{all_replaced}
use Rattle.parallel_wp.proofs.substitution.+put_in.Goals as goal

pub values_at-returns : goal.values_at-returns
values_at-returns t c = all_replaced c.args.l.now c.args.r.now c.args.items.now c.loop-v.all c.loop-v.v-index (omega arith) c.loop-v.invariant
