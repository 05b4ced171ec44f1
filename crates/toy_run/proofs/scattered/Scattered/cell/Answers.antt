use Rattle.std.proofs.Common.{◌≡◌, sym, ◌∙◌, ap, arith, rules, FitsSigned}
use Rattle.std.specs.Int.{w128}
use Rattle.std.proofs.lemmas.Int.{ints}
use Rattle.toy_imp.specs.Store.{held, read}
use Rattle.toy_run.specs.Place.{cell_of}
use Rattle.toy_run.specs.Stored.{store_by}
use Rattle.toy_run.proofs.Variables.{cell_read}
use Rattle.toy_run.proofs.scattered.Scattered.cell.Goals as goal

pub returns-in-Some : goal.returns-in-Some
returns-in-Some c =
    let fits : FitsSigned w128 c.in-Some.value.now = search rules in
    let e : c.in-Some.value.now ≡ read (store_by c.args.self.now.variables.entries c.args.self.now.cells.entries) (cell_of c.args.place.now) =
    ap held c.in-Some.ensures.value ∙ sym (cell_read c.args.self.now.variables.entries c.args.self.now.cells.entries c.args.place.now c.requires) in
    omega (arith, ints, e)

pub returns-in-None : goal.returns-in-None
returns-in-None c = ap held c.in-None.ensures.value ∙ sym (cell_read c.args.self.now.variables.entries c.args.self.now.cells.entries c.args.place.now c.requires)
