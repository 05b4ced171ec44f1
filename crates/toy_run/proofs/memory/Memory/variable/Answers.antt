use Rattle.std.proofs.Common.{◌≡◌, ◌∙◌, sym, [], arith, rules, FitsSigned}
use Rattle.std.specs.Int.{w128}
use Rattle.std.proofs.lemmas.Int.{ints}
use Rattle.toy_imp.specs.Store.{read}
use Rattle.toy_run.specs.Memory.{store_in}
use Rattle.toy_run.proofs.InOrder.{apart_read, variable_is_apart}
use Rattle.toy_run.proofs.memory.Memory.variable.Goals as goal

pub returns : goal.returns
returns c =
    let fits : FitsSigned w128 c.variable.result = search rules in
    let e : c.variable.result ≡ read (store_in c.args.self.now) (c.args.name.now, []) =
    c.variable.ensures ∙ sym (apart_read c.args.self.now.ascending _ (c.args.name.now, []) (variable_is_apart c.args.self.now.ascending c.args.name.now c.args.self.now.indexed)) in
    omega (arith, ints, e)
