use Rattle.std.proofs.Common.{◌≡◌, ◌≤ℤ◌, ◌++◌}
use Rattle.iteration_order.specs.RunningOrder.{pairs_between}
use Rattle.iteration_order.proofs.running.pairs.Given as goal

abbrev pub invariant-loop-v : goal.invariant-loop-v
invariant-loop-v l = record {
  end_is : l.v-end ≡ l.fn.outer.high;
  from_low : l.fn.outer.low ≤ℤ l.v;
  left : l.tuples ++ pairs_between l.inner l.symbols l.v l.fn.outer.high ≡ pairs_between l.inner l.symbols l.fn.outer.low l.fn.outer.high;
}
