use Rattle.std.proofs.Common.{◌≡◌, ◌++◌, ◌∷◌, [], arith}
use Rattle.std.proofs.lemmas.Int.{to_z-of_z}
use Rattle.term_run.specs.Meant.{value_of_term, IsNarrowValue}
use Rattle.term_run.proofs.InOrder.{meant_more}
use Rattle.term_run.proofs.means.+means.Goals as goal

pub values_mean-loop-v-preserved : goal.values_mean-loop-v-preserved
values_mean-loop-v-preserved t c =
    let here : IsNarrowValue c.args.w.now c.v-item.result × (c.in-Some.z ≡ value_of_term c.args.w.now c.v-item.result) = rw c.in-Some.is at c.in_ok-z.ensures in
    let pushed : c.push.new.self ≡ c.loop-v.all ++ c.in-Some.z ∷ [] = grind (arith, to_z-of_z, c.in_ok-push.ensures.ok) in
    meant_more c.args.w.now c.args.terms.now c.loop-v.v-index c.v-item.result c.in-Some.z c.loop-v.all c.push.new.self (omega arith) c.v-item.is c.loop-v.invariant here pushed
