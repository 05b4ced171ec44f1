use Rattle.std.proofs.Common.{◌≡◌, ◌++◌}
use Rattle.iteration_order.specs.RunningOrder.{tuples_between}
use Rattle.iteration_order.proofs.running.push_turns.Given as goal

abbrev pub invariant-loop-v : goal.invariant-loop-v
invariant-loop-v l = record {
  end_is : l.v-end ≡ l.fn.turns.high;
  left : l.tuples ++ tuples_between l.around l.v l.fn.turns.high ≡ l.fn.tuples ++ tuples_between l.around l.fn.turns.low l.fn.turns.high;
}
