use Rattle.std.proofs.Common.{◌≡◌, ◌++◌, ◌∷◌, [], arith}
use Rattle.std.proofs.lemmas.Int.{to_z-of_z}
use Rattle.toy_imp.specs.Value.{value}
use Rattle.toy_run.specs.Narrow.{NarrowExpr}
use Rattle.toy_run.specs.Memory.{store_in}
use Rattle.toy_run.proofs.Values.{evaluated_more}
use Rattle.toy_run.proofs.evaluate.+evaluate.Goals as goal

pub evaluate_all-loop-e-preserved : goal.evaluate_all-loop-e-preserved
evaluate_all-loop-e-preserved t c =
    let here : NarrowExpr c.e-item.result (store_in c.args.memory.now) × (c.in-Some.v ≡ value c.e-item.result (store_in c.args.memory.now)) = rw c.in-Some.is at c.in_ok-v.ensures in
    let pushed : c.push.new.self.items ≡ c.loop-e.all.items ++ c.in-Some.v ∷ [] = grind (arith, to_z-of_z, c.in_ok-push.ensures.items) in
    evaluated_more c.args.es.now c.loop-e.e-index (store_in c.args.memory.now) c.e-item.result c.in-Some.v c.loop-e.all.items c.push.new.self.items (omega arith) c.e-item.is c.loop-e.invariant here pushed
