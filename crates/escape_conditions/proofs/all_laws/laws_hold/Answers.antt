-- By the tests of all groups.
use Rattle.std.proofs.Common.{sym, ◌∙◌}
use Rattle.escape_conditions.proofs.AllLaws.{all_hold, all_pass}
use Rattle.escape_conditions.proofs.all_laws.laws_hold.Goals as goal

pub returns : goal.returns
returns c = (λ h. all_hold c.args.ob.now c.args.e.now (sym c.laws_pass.ensures ∙ h), λ h. c.laws_pass.ensures ∙ all_pass c.args.ob.now c.args.e.now h)
