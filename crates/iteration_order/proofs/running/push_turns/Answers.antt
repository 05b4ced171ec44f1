use Rattle.std.proofs.Common.{rules, ◌≡◌, ◌∙◌, ap, ◌++◌, [], ◌∷◌, to_z, FitsSigned}
use Rattle.std.specs.Int.{w128}
use Rattle.iteration_order.proofs.Steps.{GoesOn, goes_on, ends, push_step, push_done}
use Rattle.iteration_order.proofs.running.push_turns.Goals as goal

pub loop-v-preserved : goal.loop-v-preserved
loop-v-preserved c =
    let v_fits : FitsSigned w128 (to_z w128 c.loop-v.v-bits) = search rules in
    let high_fits : FitsSigned w128 c.args.turns.high = search rules in
    let on : GoesOn (to_z w128 c.loop-v.v-bits) c.args.turns.high = goes_on _ _ v_fits high_fits c.loop-v-test.true in
    let tuple : c.push.new.self ≡ c.args.around.now ++ to_z w128 c.loop-v.v-bits ∷ [] =
    c.in_ok-push.ensures.ok ∙ ap (λ l. l ++ to_z w128 c.loop-v.v-bits ∷ []) c.in_ok-tuple.ensures in
    record {
      end_is = c.loop-v.invariant.end_is;
      left = push_step c.args.around.now _ _ _ _ _ _ on.below on.next_is (c.in_ok-push-2.ensures.ok ∙ ap (λ t. c.loop-v.tuples ++ t ∷ []) tuple) c.loop-v.invariant.left;
    }

pub returns : goal.returns
returns c =
    let high_fits : FitsSigned w128 c.args.turns.high = search rules in
    push_done c.args.around.now _ _ _ _ (ends _ _ high_fits c.loop-v-test.false) c.loop-v.invariant.left
