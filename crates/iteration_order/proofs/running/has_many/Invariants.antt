use Rattle.std.proofs.Common.{◌≡◌, pos, ◌+ℤ◌, ◌≤ℤ◌, length}
use Rattle.iteration_order.specs.RunningOrder.{pairs_between}
use Rattle.iteration_order.proofs.running.has_many.Given as goal

abbrev pub invariant-loop-v : goal.invariant-loop-v
invariant-loop-v l = record {
  end_is : l.v-end ≡ l.fn.outer.high;
  from_low : l.fn.outer.low ≤ℤ l.v;
  left : l.count +ℤ pos (length (pairs_between l.inner l.symbols l.v l.fn.outer.high)) ≡ pos (length (pairs_between l.inner l.symbols l.fn.outer.low l.fn.outer.high));
  positive : pos 0 ≤ℤ l.count;
  few : l.count ≤ℤ pos 65536;
}
