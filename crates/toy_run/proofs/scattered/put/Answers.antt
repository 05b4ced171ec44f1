use Rattle.std.proofs.Common.{◌≡◌, None, Some, pos, arith, to_z, of_z}
use Rattle.std.specs.Int.{w128}
use Rattle.std.proofs.lemmas.Int.{ints}
use Rattle.toy_run.proofs.Stores.{made_by_write}
use Rattle.toy_run.proofs.scattered.put.Goals as goal

pub returns-then-value-eq0-clause-stored : goal.returns-then-value-eq0-clause-stored
returns-then-value-eq0-clause-stored c =
    let zero : pos 0 ≡ c.args.value = omega (arith, ints) in
    made_by_write c.args.cells.now.entries c.remove.new.self.entries c.args.place None c.args.value zero c.remove.ensures.updates.0

pub returns-in_ok-insert-clause-stored : goal.returns-in_ok-insert-clause-stored
returns-in_ok-insert-clause-stored c =
    let back : to_z w128 (of_z w128 c.args.value) ≡ c.args.value = omega (arith, ints) in
    made_by_write c.args.cells.now.entries c.insert.new.self.entries c.args.place (Some (to_z w128 (of_z w128 c.args.value))) c.args.value back c.in_ok-insert.ensures.updates.0
