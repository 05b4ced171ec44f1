use Rattle.std.proofs.Common.{rules, ◌≡◌, Some, ◌<◌, length, drop, take, ◌++◌, ◌+◌, get_or, ◌∙◌, sym, ap}
use mir.Syntax.{w128}
use mir.Val.{SFits}
use Rattle.std.proofs.lemmas.Int.{to_z-of_z}
use Rattle.linear_rows.specs.Steps.{column_of, made, last_by}
use Rattle.linear_rows.proofs.Making.{last_pushed, last_goes_on, next_column}
use Rattle.linear_rows.proofs.multipliers.last_number.Goals as goal

pub loop-i-preserved : goal.loop-i-preserved
loop-i-preserved c =
    let fits : SFits w128 c.in_ok-last.last = search rules in
    let column = column_of c.args.rows.now c.args.column in
    let numbers = c.loop-i.numbers in
    let i = c.loop-i.i in
    let lt : i < length numbers = search rules in
    let before = column ++ take i numbers in
    let step = get_or c.args.steps.now i (record { first = 0; by = 0; second = 0; times = 0; cut = 0 }) in
    let is : made step before ≡ Some c.in_ok-last.last = sym c.made.ensures ∙ c.in_ok-last.was in
    rw (to_z-of_z w128 c.in_ok-last.last fits) (record {
      rest = c.loop-i.invariant.rest ∙ last_goes_on before c.args.steps.now i _ c.in_ok-last.last c.loop-i-test.true is
          ∙ ap (λ all. last_by all (drop (i + 1) c.args.steps.now)) (sym (next_column column numbers i c.in_ok-last.last lt));
      last = λ _. last_pushed column numbers i c.in_ok-last.last lt;
    })
