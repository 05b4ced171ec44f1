use Rattle.std.proofs.Common.{rules, pos, get_or, ◌<◌, ◌≤◌, min, length, sym, ◌∙◌}
use mir.Syntax.{w128}
use mir.Val.{SFits}
use Rattle.std.proofs.lemmas.Int.{to_z-of_z}
use Rattle.linear_rows.proofs.Walking.{left_over_more, left_over_ends}
use Rattle.linear_rows.proofs.value.left_over.Goals as goal

pub loop-i-preserved : goal.loop-i-preserved
loop-i-preserved c =
    let lt : c.loop-i.i < length c.args.coefficients.now = search rules in
    let lt' : c.loop-i.i < length c.args.xs.now = search rules in
    let a : SFits w128 (get_or c.args.coefficients.now c.loop-i.i (pos 0)) = search rules in
    record {
      rest = c.loop-i.invariant.rest
          ∙ left_over_more c.loop-i.sum c.args.coefficients.now c.args.xs.now c.loop-i.i _ c.in_ok-taken.taken c.in_ok-sum.sum lt lt'
          (sym (rw (to_z-of_z w128 (get_or c.args.coefficients.now c.loop-i.i (pos 0)) a) at c.product.ensures.value) ∙ c.in_ok-taken.was) (sym c.difference.ensures.value ∙ c.in_ok-sum.was);
      proper = c.in_ok-sum.ensures.proper;
    }

pub returns-clause-value : goal.returns-clause-value
returns-clause-value c =
    let fits : SFits w128 c.args.bound = search rules in
    let le : min (length c.args.coefficients.now) (length c.args.xs.now) ≤ c.loop-i.i = search rules in
    sym (rw (to_z-of_z w128 c.args.bound fits) at c.loop-i.invariant.rest ∙ left_over_ends c.loop-i.sum c.args.coefficients.now c.args.xs.now c.loop-i.i le)
