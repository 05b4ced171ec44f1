use Rattle.std.proofs.Common.{rules, ◌∙◌, sym}
use mir.Syntax.{w64}
use mir.Val.{SFits}
use Rattle.std.proofs.lemmas.Int.{to_z-of_z}
use Rattle.linear_rows.proofs.Making.{number_past}
use Rattle.linear_rows.proofs.multipliers.number_in.Goals as goal

pub returns-in-None : goal.returns-in-None
returns-in-None c =
    let fits : SFits w64 c.args.row.now.bound = search rules in
    to_z-of_z w64 c.args.row.now.bound fits ∙ sym (number_past c.args.row.now.coefficients c.args.column c.args.row.now.bound (sym c.in-None.ensures.value))
