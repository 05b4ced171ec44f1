use Rattle.std.proofs.Common.{◌≡◌, ◌∙◌, ap, [], Result, Ok, Err, OnOk, arith, to_z, of_z}
use Rattle.std.specs.Int.{w128}
use Rattle.std.proofs.lemmas.Int.{ints}
use Rattle.toy_imp.specs.Store.{Store, write}
use Rattle.toy_run.specs.Memory.{store_in}
use Rattle.toy_run.specs.Stored.{with_cells}
use Rattle.toy_run.proofs.InOrder.{apart_write, variable_is_apart}
use Rattle.toy_run.proofs.memory.Memory.set_variable.Goals as goal

written : {A B : Type 0} (r : Result A B) (t u v w : Store) → OnOk r (t ≡ u) → (t ≡ u → v ≡ w) → OnOk r (v ≡ w)
written (Ok a) t u v w h f = f h
written (Err b) t u v w h f = h

pub returns : goal.returns
returns c =
    let back : to_z w128 (of_z w128 c.args.value) ≡ c.args.value = omega (arith, ints) in
    written c.set_variable.result _ _ _ _ c.set_variable.ensures
    (λ made. ap (with_cells c.args.self.now.ascending) made
    ∙ apart_write c.args.self.now.ascending _ (c.args.name.now, []) (to_z w128 (of_z w128 c.args.value)) (variable_is_apart c.args.self.now.ascending c.args.name.now c.args.self.now.indexed)
    ∙ ap (write (store_in c.args.self.now) (c.args.name.now, [])) back)
