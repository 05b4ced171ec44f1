use Rattle.std.proofs.Common.{rules, ◌≡◌, ◌∙◌, ap}
use Rattle.std.specs.Option.{is_none}
use Rattle.toy_imp.specs.Faults.{first_fault}
use Rattle.toy_imp.proofs.Faultless.{well_formed_is}
use Rattle.toy_imp.proofs.rule.Rule.well_formed.Goals as goal

pub returns : goal.returns
returns c =
    let fault : c.first_fault.result ≡ first_fault c.args.self.now = search rules in
    let answer : c.is_none.result ≡ is_none c.first_fault.result = search rules in
    answer ∙ ap is_none fault ∙ well_formed_is c.args.self.now
