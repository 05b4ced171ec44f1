use Rattle.std.proofs.Common.{◌≡◌, sym, ◌∙◌, ap, arith, rules, [], FitsSigned}
use Rattle.std.specs.Int.{w128}
use Rattle.std.proofs.lemmas.Int.{ints}
use Rattle.toy_imp.specs.Store.{held, read}
use Rattle.toy_run.specs.Stored.{store_by}
use Rattle.toy_run.proofs.Variables.{variable_read}
use Rattle.toy_run.proofs.scattered.Scattered.variable.Goals as goal

pub returns-in-Some : goal.returns-in-Some
returns-in-Some c =
    let fits : FitsSigned w128 c.in-Some.value.now = search rules in
    let e : c.in-Some.value.now ≡ read (store_by c.args.self.now.variables.entries c.args.self.now.cells.entries) (c.args.name.now, []) =
    ap held c.in-Some.ensures.value ∙ sym (variable_read c.args.self.now.variables.entries c.args.self.now.cells.entries c.args.name c.args.self.now.no_variable) in
    omega (arith, ints, e)

pub returns-in-None : goal.returns-in-None
returns-in-None c = ap held c.in-None.ensures.value ∙ sym (variable_read c.args.self.now.variables.entries c.args.self.now.cells.entries c.args.name c.args.self.now.no_variable)
