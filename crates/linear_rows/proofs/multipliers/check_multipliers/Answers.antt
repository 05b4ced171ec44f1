use Rattle.std.proofs.Common.{rules, arith, ◌≤◌, sym, ◌∙◌, ap}
use Rattle.std.specs.Prelude.{pos, int_lt}
use mir.Syntax.{w128}
use mir.Val.{SFits}
use Rattle.std.proofs.lemmas.Int.{to_z-of_z}
use Rattle.std.proofs.lemmas.Bool.{eqb-false}
use Rattle.linear_rows.proofs.Weighing.{given_refutes, steps_check, no_solution}
use Rattle.linear_rows.proofs.multipliers.check_multipliers.Goals as goal

pub returns-then-is_empty-clause-refutes : goal.returns-then-is_empty-clause-refutes
returns-then-is_empty-clause-refutes c = λ yes point met.
    given_refutes c.args.rows.now point (sym c.any_contradiction.ensures ∙ yes) met

pub returns-in-Some-clause-refutes : goal.returns-in-Some-clause-refutes
returns-in-Some-clause-refutes c = λ yes.
    let fits : SFits w128 c.in-Some.bound = search rules in
    let past : c.args.n ≤ c.loop-column.column = search rules in
    no_solution c.args.n c.args.rows.now c.args.steps.now c.requires.rows
    (steps_check c.args.n c.args.rows.now c.args.steps.now c.in-Some.bound
    (eqb-false _ _ (sym c.is_empty.ensures ∙ c.if-is_empty.false))
    (λ j lt. c.loop-column.invariant.none j (omega arith))
    (sym c.last_number-2.ensures ∙ c.in-Some.is)
    (ap (λ z. int_lt z (pos 0)) (sym (to_z-of_z w128 c.in-Some.bound fits)) ∙ yes))
