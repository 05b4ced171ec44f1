use Rattle.std.proofs.Common.{rules, ◌∙◌, ap}
use Rattle.std.specs.Prelude.{pos, unsigned_abs, int_div}
use mir.Syntax.{w128}
use mir.Val.{SFits}
use Rattle.std.proofs.lemmas.Int.{to_z-of_z}
use Rattle.linear_rows.proofs.Reducing.{reduced_is}
use Rattle.linear_rows.proofs.fraction.reduced.Goals as goal

pub returns-clause-value : goal.returns-clause-value
returns-clause-value c =
    let over : SFits w128 c.args.over = search rules in
    let under : SFits w128 c.args.under = search rules in
    rw (to_z-of_z w128 c.divided.result (search rules), to_z-of_z w128 c.divided-2.result (search rules)) at c.where_small.ensures.value
    ∙ reduced_is c.args.over c.args.under c.divided.result c.divided-2.result c.unsigned_abs.result c.unsigned_abs-2.result c.divisor-common.result
    (c.unsigned_abs.ensures.value ∙ ap unsigned_abs (to_z-of_z w128 c.args.over over))
    (c.unsigned_abs-2.ensures.value ∙ ap unsigned_abs (to_z-of_z w128 c.args.under under))
    c.divisor-common.ensures.value
    (c.divided.ensures.value ∙ ap (λ z. int_div z (pos c.divisor-common.result)) (to_z-of_z w128 c.args.over over))
    (c.divided-2.ensures.value ∙ ap (λ z. int_div z (pos c.divisor-common.result)) (to_z-of_z w128 c.args.under under))
