use Rattle.std.proofs.Common.{◌==◌, sym, ◌∙◌}
use Rattle.std.specs.List.{list_any}
use Rattle.entry_pairs.proofs.ListedPoints.{taken, passed_by}
use Rattle.entry_pairs.proofs.cut_points.push_named.Goals as goal
use Rattle.entry_pairs.proofs.cut_points.push_named.Goals.{then-is_named+in_ok-push, else-is_named}

pub loop-p-preserved : goal.loop-p-preserved
loop-p-preserved c =
    elim c.if-is_named.branch [
      | then-is_named+in_ok-push w ↦
          taken (λ p. list_any (λ c. c == p) c.args.named.now) c.loop-p.p c.args.exit c.loop-p.all c.if-is_named.all _ c.loop-p-test.true
          (sym c.is_named.ensures ∙ w.if-is_named.true) (w.all-is ∙ w.in_ok-push.ensures.ok) c.loop-p.invariant
      | else-is_named w ↦
          passed_by (λ p. list_any (λ c. c == p) c.args.named.now) c.loop-p.p c.args.exit c.loop-p.all c.if-is_named.all _ c.loop-p-test.true
          (sym c.is_named.ensures ∙ w.if-is_named.false) w.all-is c.loop-p.invariant
    ]
