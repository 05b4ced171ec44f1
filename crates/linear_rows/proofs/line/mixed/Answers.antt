use Rattle.std.proofs.Common.{rules, pos, get_or, ◌^◌, ◌<◌, ◌≤◌, min, length}
use Rattle.std.specs.Prelude.{unsigned_abs}
use Rattle.std.proofs.lemmas.List.Elements.{All-push}
use mir.Syntax.{w128}
use mir.Val.{SFits}
use Rattle.std.proofs.lemmas.Int.{to_z-of_z}
use Rattle.linear_rows.proofs.Walking.{mixed_push, mixed_whole}
use Rattle.linear_rows.proofs.line.mixed.Goals as goal

pub loop-i-preserved : goal.loop-i-preserved
loop-i-preserved c =
    let lt_p : c.loop-i.i < length c.args.p.now = search rules in
    let lt_q : c.loop-i.i < length c.args.q.now = search rules in
    let x : SFits w128 (get_or c.args.p.now c.loop-i.i (pos 0)) = search rules in
    let y : SFits w128 (get_or c.args.q.now c.loop-i.i (pos 0)) = search rules in
    let fits : SFits w128 c.mixed_number.result = search rules in
    record {
      sum = mixed_push _ _ c.args.p.now c.args.q.now _ c.loop-i.line.items _ c.loop-i.i _ lt_p lt_q c.loop-i.invariant.sum c.in_ok-push.ensures.items
          (rw (to_z-of_z w128 c.mixed_number.result fits)
          (rw (to_z-of_z w128 (get_or c.args.p.now c.loop-i.i (pos 0)) x, to_z-of_z w128 (get_or c.args.q.now c.loop-i.i (pos 0)) y) at c.mixed_number.ensures.value));
      wide = rw c.in_ok-push.ensures.items (All-push (λ z. unsigned_abs z ≤ 2 ^ 126) c.loop-i.line.items _ c.loop-i.invariant.wide
          (rw (to_z-of_z w128 c.mixed_number.result fits) c.mixed_number.ensures.size));
    }

pub returns-clause-value : goal.returns-clause-value
returns-clause-value c =
    let a : SFits w128 c.args.a = search rules in
    let b : SFits w128 c.args.b = search rules in
    let le : min (length c.args.p.now) (length c.args.q.now) ≤ c.loop-i.i = search rules in
    rw (to_z-of_z w128 c.args.a a, to_z-of_z w128 c.args.b b) at (mixed_whole _ _ c.args.p.now c.args.q.now _ c.loop-i.line.items c.loop-i.i le c.loop-i.invariant.sum)
