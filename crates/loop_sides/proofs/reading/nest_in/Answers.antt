use Rattle.std.proofs.Common.{◌≤◌, ◌∙◌, ap, sym, length, rules}
use Rattle.loop_sides.specs.declared.shape.Loops.TheVariants as loops
use Rattle.loop_sides.specs.Sides.{nest_round, nest_in}
use Rattle.loop_sides.proofs.Shapes.{not_one}
use Rattle.loop_sides.proofs.reading.nest_in.Goals as goal

pub returns-in_default-clause-is : goal.returns-in_default-clause-is
returns-in_default-clause-is c =
    let more : 2 ≤ length c.b.inside.stmts = search rules in
    c.nest_round.ensures.is
    ∙ ap (λ b. nest_round c.args.params.now b (loops.One c.args.first)) (sym c.b.view_is)
    ∙ not_one c.args.params.now c.args.first c.b.inside.stmts more
    ∙ ap (nest_in c.args.params.now c.args.first) c.b.view_is
