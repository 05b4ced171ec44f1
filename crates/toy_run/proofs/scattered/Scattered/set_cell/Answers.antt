use Rattle.std.proofs.Common.{◌≡◌, ◌≢◌, [], None, Some, pos, arith, to_z, of_z}
use Rattle.std.specs.Int.{w128}
use Rattle.std.proofs.lemmas.Int.{ints}
use Rattle.toy_run.proofs.Stores.{made_by_write}
use Rattle.toy_run.proofs.Variables.{cell_set}
use Rattle.toy_run.proofs.scattered.Scattered.set_cell.Goals as goal

pub returns-then-value-eq0 : goal.returns-then-value-eq0
returns-then-value-eq0 c =
    let zero : pos 0 ≡ c.args.value = omega (arith, ints) in
    let some : c.args.place.indices ≢ [] = c.requires in
    cell_set c.args.self.now.variables.entries c.args.self.now.cells.entries c.remove.new.self.entries c.args.place c.args.value
    (made_by_write c.args.self.now.cells.entries c.remove.new.self.entries c.args.place None c.args.value zero c.remove.ensures.updates.0) some

pub returns-in_ok-insert : goal.returns-in_ok-insert
returns-in_ok-insert c =
    let back : to_z w128 (of_z w128 c.args.value) ≡ c.args.value = omega (arith, ints) in
    let some : c.args.place.indices ≢ [] = c.requires in
    cell_set c.args.self.now.variables.entries c.args.self.now.cells.entries c.insert.new.self.entries c.args.place c.args.value
    (made_by_write c.args.self.now.cells.entries c.insert.new.self.entries c.args.place (Some (to_z w128 (of_z w128 c.args.value))) c.args.value back c.in_ok-insert.ensures.updates.0) some
