use Rattle.std.proofs.Common.{◌≡◌, ◌∙◌, ap, [], arith, to_z, of_z}
use Rattle.std.specs.Int.{w128}
use Rattle.std.proofs.lemmas.Int.{ints}
use Rattle.toy_imp.specs.Store.{write}
use Rattle.toy_run.specs.Stored.{store_by}
use Rattle.toy_run.proofs.Variables.{variable_set}
use Rattle.toy_run.proofs.scattered.Scattered.set_variable.Goals as goal

pub returns : goal.returns
returns c =
    let back : to_z w128 (of_z w128 c.args.value) ≡ c.args.value = omega (arith, ints) in
    variable_set c.args.self.now.variables.entries c.insert.new.self.entries c.args.self.now.cells.entries c.args.name (to_z w128 (of_z w128 c.args.value)) c.args.self.now.no_variable c.in_ok-insert.ensures.updates.0
    ∙ ap (write (store_by c.args.self.now.variables.entries c.args.self.now.cells.entries) (c.args.name.now, [])) back
