use Rattle.std.proofs.Common.{rules, to_z, FitsSigned, ◌≤ℤ◌, arith}
use Rattle.std.specs.Int.{w128}
use Rattle.std.proofs.lemmas.Int.{ints}
use Rattle.iteration_order.proofs.Steps.{GoesOn, goes_on, ends, pairs_step, pairs_done}
use Rattle.iteration_order.proofs.running.pairs.Goals as goal

pub loop-v-preserved : goal.loop-v-preserved
loop-v-preserved c =
    let v_fits : FitsSigned w128 (to_z w128 c.loop-v.v-bits) = search rules in
    let high_fits : FitsSigned w128 c.args.outer.high = search rules in
    let on : GoesOn (to_z w128 c.loop-v.v-bits) c.args.outer.high = goes_on _ _ v_fits high_fits c.loop-v-test.true in
    let from_low : c.args.outer.low ≤ℤ to_z w128 c.loop-v.v-bits = c.loop-v.invariant.from_low in
    let next = on.next_is in
    record {
      end_is = c.loop-v.invariant.end_is;
      from_low = rw next (omega (arith, ints));
      left = pairs_step c.args.inner.now c.args.symbols.now _ _ _ _ _ _ _ _ on.below on.next_is c.of-turns.ensures.low c.of-turns.ensures.high c.in_ok-push_turns.ensures c.loop-v.invariant.left;
    }

pub returns : goal.returns
returns c =
    let high_fits : FitsSigned w128 c.args.outer.high = search rules in
    pairs_done c.args.inner.now c.args.symbols.now _ _ _ _ (ends _ _ high_fits c.loop-v-test.false) c.loop-v.invariant.left
