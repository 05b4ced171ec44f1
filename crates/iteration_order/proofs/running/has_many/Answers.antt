use Rattle.std.proofs.Common.{rules, ◌≡◌, ◌<◌, to_z, pos, ◌+ℤ◌, ◌<ℤ◌, ◌≤ℤ◌, length, arith, true, false, FitsSigned}
use Rattle.std.specs.Int.{w128}
use Rattle.std.specs.Int.Signed.{lt_z}
use Rattle.std.proofs.lemmas.Int.{ints}
use Rattle.iteration_order.specs.RunningOrder.{pairs_between}
use Rattle.iteration_order.proofs.Steps.{GoesOn, goes_on, ends, MoreCounted, more_counted, count_done, above_most, at_most_most}
use Rattle.iteration_order.proofs.running.has_many.Goals as goal
use Rattle.iteration_order.proofs.running.has_many.Goals.{After-count-count}

on : (c : After-count-count) → GoesOn (to_z w128 c.loop-v.v-bits) c.args.outer.high
on c =
    let v_fits : FitsSigned w128 (to_z w128 c.loop-v.v-bits) = search rules in
    let high_fits : FitsSigned w128 c.args.outer.high = search rules in
    goes_on _ _ v_fits high_fits c.loop-v-test.true

more : (c : After-count-count) → MoreCounted c.args.inner.now c.args.symbols.now (to_z w128 c.loop-v.v-bits) c.args.outer.high (to_z w128 c.loop-v.count-bits) c.count-count.result
    (length (pairs_between c.args.inner.now c.args.symbols.now c.args.outer.low c.args.outer.high))
more c = more_counted _ _ _ _ _ _ _ _ _ (on c).below c.of-turns.ensures.low c.of-turns.ensures.high c.count-count.ensures.count c.count-count.ensures.small
    c.loop-v.invariant.positive c.loop-v.invariant.few c.loop-v.invariant.left

pub overflow_add-count : goal.overflow_add-count
overflow_add-count c = (more c).fits

pub returns-then-count-gt-MOST : goal.returns-then-count-gt-MOST
returns-then-count-gt-MOST c =
    let m = more (goal.at.returns-then-count-gt-MOST c).After-count-count in
    let is = m.is in
    let left = m.left in
    let test : lt_z (pos 65536) (to_z w128 c.loop-v.count-bits +ℤ c.count-count.result) ≡ true = rw is at c.if-count-gt-MOST.true in
    let many : pos 65536 <ℤ (to_z w128 c.loop-v.count-bits +ℤ c.count-count.result) = above_most _ test in
    (λ _. omega (arith, ints), λ _. search rules)

pub loop-v-preserved : goal.loop-v-preserved
loop-v-preserved c =
    let g = on (goal.at.loop-v-preserved c).After-count-count in
    let m = more (goal.at.loop-v-preserved c).After-count-count in
    let from_low = c.loop-v.invariant.from_low in
    let is = m.is in
    let test : lt_z (pos 65536) (to_z w128 c.loop-v.count-bits +ℤ c.count-count.result) ≡ false = rw is at c.if-count-gt-MOST.false in
    let few : (to_z w128 c.loop-v.count-bits +ℤ c.count-count.result) ≤ℤ pos 65536 = at_most_most _ test in
    record {
      end_is = c.loop-v.invariant.end_is;
      from_low = rw g.next_is (omega (arith, ints));
      left = rw (m.is, g.next_is) m.left;
      positive = rw m.is m.positive;
      few = rw is few;
    }

pub returns : goal.returns
returns c =
    let high_fits : FitsSigned w128 c.args.outer.high = search rules in
    let done = count_done c.args.inner.now c.args.symbols.now _ _ (ends _ _ high_fits c.loop-v-test.false) in
    let left = c.loop-v.invariant.left in
    let few = c.loop-v.invariant.few in
    (λ no. absurd (search rules), λ (many : 65536 < length (pairs_between c.args.inner.now c.args.symbols.now c.args.outer.low c.args.outer.high)). absurd (omega (arith, ints)))
